-- The targets of a map agree in exactly one of the four ways.
use Rattle.std.proofs.Common.{◌≡◌, ◌≢◌, ℕ, ◌⊎◌, inl, inr, cond, eqb, [], ◌∷◌, Some, refl, sym, ap, ◌∙◌, subst}
use Rattle.std.proofs.lemmas.Bool.{cases_eq, eq-eqb, ne_eqb, cond-true, cond-false}
use Rattle.std.proofs.lemmas.Option.{none-some}
use Rattle.table_data.specs.declared.act.Act.{Act}
use Rattle.table_data.specs.declared.act.Act.TheVariants.{Shift, Reduce, Accept, Error}
use Rattle.table_data.specs.Tables.{Tables, act_in}
use Rattle.map_theory.specs.declared.agree.Agree.{Agree}
use Rattle.map_theory.specs.declared.agree.Agree.TheVariants as agree
use Rattle.map_theory.specs.Maps.{StateMap, target, IsRising}
use Rattle.map_theory.specs.Agreements.{NoneLeft, AllDo, IsShift, Differ, AreSeveral, two_differ, one_accepts, Agrees, agreed}
use Rattle.map_theory.specs.Laws.{SomeAgreementLaw, OneAgreementLaw}
use Rattle.map_theory.proofs.MapLemmas.{rising_tail, target_at, target_later, target_cases}

-- ---- one more target

-- the targets of `n` are those of `m` and this one
pub record Adds (m : StateMap) (p : ℕ) (n : StateMap) : Type 0 where
  pub keeps : (q z : ℕ) → target m q ≡ Some z → (y : ℕ) × (target n y ≡ Some z)
  pub start : ℕ
  pub new : target n start ≡ Some p
  pub only : (q z : ℕ) → target n q ≡ Some z → (p ≡ z) ⊎ ((y : ℕ) × (target m y ≡ Some z))

none_more : (t : Tables) (a p : ℕ) (m n : StateMap) → Adds m p n → act_in t p a ≡ Error → NoneLeft t a m → NoneLeft t a n
none_more t a p m n adds err none q z is = cases (adds.only q z is)
  where
    cases : (p ≡ z) ⊎ ((y : ℕ) × (target m y ≡ Some z)) → act_in t z a ≡ Error
    cases (inl same) = ap (λ x. act_in t x a) (sym same) ∙ err
    cases (inr old) = none old.0 z old.1

do_more : (does : Act → Type 0) (t : Tables) (a p : ℕ) (m n : StateMap) → Adds m p n → (act_in t p a ≡ Error) ⊎ does (act_in t p a) → AllDo does t a m → AllDo does t a n
do_more does t a p m n adds this all =
    let kept = adds.keeps all.some.0 all.some.1 all.some.2 in
    record { some = (kept.0, all.some.1, kept.1, all.some.3); each = λ q z is. cases q z (adds.only q z is) }
  where
    cases : (q z : ℕ) → (p ≡ z) ⊎ ((y : ℕ) × (target m y ≡ Some z)) → (act_in t z a ≡ Error) ⊎ does (act_in t z a)
    cases q z (inl same) = subst (λ x. (act_in t x a ≡ Error) ⊎ does (act_in t x a)) same this
    cases q z (inr old) = all.each old.0 z old.1

do_first : (does : Act → Type 0) (t : Tables) (a p : ℕ) (m n : StateMap) → Adds m p n → does (act_in t p a) → NoneLeft t a m → AllDo does t a n
do_first does t a p m n adds this none = record { some = (adds.start, p, adds.new, this); each = λ q z is. cases q z (adds.only q z is) }
  where
    cases : (q z : ℕ) → (p ≡ z) ⊎ ((y : ℕ) × (target m y ≡ Some z)) → (act_in t z a ≡ Error) ⊎ does (act_in t z a)
    cases q z (inl same) = inr (subst (λ x. does (act_in t x a)) same this)
    cases q z (inr old) = inl (none old.0 z old.1)

several_more : (t : Tables) (a p : ℕ) (m n : StateMap) → Adds m p n → AreSeveral t a m → AreSeveral t a n
several_more t a p m n adds (two_differ q x y z first second differ) =
    let one = adds.keeps q x first in let other = adds.keeps y z second in two_differ one.0 x other.0 z one.1 other.1 differ
several_more t a p m n adds (one_accepts q x is accepts) = let kept = adds.keeps q x is in one_accepts kept.0 x kept.1 accepts

-- two actions that are these differ where these do
differ_as : {act other x y : Act} → act ≡ x → other ≡ y → Differ x y → Differ act other
differ_as {act = act} {y = y} is also differ = subst (λ z. Differ act z) (sym also) (subst (λ z. Differ z y) (sym is) differ)

differ_are : {act other x y : Act} → act ≡ x → other ≡ y → Differ act other → Differ x y
differ_are {other = other} {x = x} is also differ = subst (λ z. Differ x z) also (subst (λ z. Differ z other) is differ)

with_new : (t : Tables) (a p : ℕ) (m n : StateMap) → Adds m p n → (does : Act → Type 0) → (all : AllDo does t a m) → Differ (act_in t p a) (act_in t all.some.1 a) → AreSeveral t a n
with_new t a p m n adds does all differ =
    let kept = adds.keeps all.some.0 all.some.1 all.some.2 in two_differ adds.start p kept.0 all.some.1 adds.new kept.1 differ

pub agrees_more : (t : Tables) (a p : ℕ) (m n : StateMap) → Adds m p n → (act : Act) → act_in t p a ≡ act → (g : Agree) → Agrees t a m g → Agrees t a n (agreed g act)
agrees_more t a p m n adds Error is agree.NoneLeft none = none_more t a p m n adds is none
agrees_more t a p m n adds Error is agree.Shift all = do_more IsShift t a p m n adds (inl is) all
agrees_more t a p m n adds Error is (agree.Reduce r) all = do_more (λ act. act ≡ Reduce r) t a p m n adds (inl is) all
agrees_more t a p m n adds Error is agree.Several several = several_more t a p m n adds several
agrees_more t a p m n adds Accept is g agrees = one_accepts adds.start p adds.new is
agrees_more t a p m n adds (Shift to) is agree.NoneLeft none = do_first IsShift t a p m n adds (to, is) none
agrees_more t a p m n adds (Shift to) is agree.Shift all = do_more IsShift t a p m n adds (inr (to, is)) all
agrees_more t a p m n adds (Shift to) is (agree.Reduce r) all = with_new t a p m n adds (λ act. act ≡ Reduce r) all (differ_as {x = Shift to} {y = Reduce r} is all.some.3 tt)
agrees_more t a p m n adds (Shift to) is agree.Several several = several_more t a p m n adds several
agrees_more t a p m n adds (Reduce s) is agree.NoneLeft none = do_first (λ act. act ≡ Reduce s) t a p m n adds is none
agrees_more t a p m n adds (Reduce s) is agree.Shift all = with_new t a p m n adds IsShift all (differ_as {x = Reduce s} {y = Shift all.some.3.0} is all.some.3.1 tt)
agrees_more t a p m n adds (Reduce s) is (agree.Reduce r) all = cases (cases_eq r s)
  where
    cases : (r ≡ s) ⊎ (r ≡ s → ⊥) → Agrees t a n (cond (eqb r s) (agree.Reduce r) agree.Several)
    cases (inl same) = subst (Agrees t a n) (sym (cond-true (eqb r s) (agree.Reduce r) agree.Several (eq-eqb r s same))) (do_more (λ act. act ≡ Reduce r) t a p m n adds (inr (is ∙ ap Reduce (sym same))) all)
    cases (inr other) = subst (Agrees t a n) (sym (cond-false (eqb r s) (agree.Reduce r) agree.Several (ne_eqb r s other))) (with_new t a p m n adds (λ act. act ≡ Reduce r) all (differ_as {x = Reduce s} {y = Reduce r} is all.some.3 (λ e. other (sym e))))
agrees_more t a p m n adds (Reduce s) is agree.Several several = several_more t a p m n adds several

first_adds : (pair : ℕ × ℕ) (m : StateMap) → IsRising (pair ∷ m) → Adds m pair.1 (pair ∷ m)
first_adds pair m rising = record {
  keeps = λ q z is. (q, target_later pair m q z rising is);
  start = pair.0;
  new = target_at pair m pair.0 refl;
  only = λ q z is. cases q z (target_cases pair m q z is);
}
  where
    cases : (q z : ℕ) → (pair.1 ≡ z) ⊎ (target m q ≡ Some z) → (pair.1 ≡ z) ⊎ ((y : ℕ) × (target m y ≡ Some z))
    cases q z (inl same) = inl same
    cases q z (inr old) = inr (q, old)

pub some_agreement_law : SomeAgreementLaw
some_agreement_law t a [] rising = (agree.NoneLeft, λ q p is. absurd (none-some p is))
some_agreement_law t a (pair ∷ m) rising =
    let before = some_agreement_law t a m (rising_tail pair m rising) in
    (agreed before.0 (act_in t pair.1 a), agrees_more t a pair.1 m (pair ∷ m) (first_adds pair m rising) (act_in t pair.1 a) refl before.0 before.1)

do_alike : (does : Act → Type 0) (t : Tables) (a : ℕ) (m n : StateMap) → ((q z : ℕ) → target m q ≡ Some z → (y : ℕ) × (target n y ≡ Some z)) → ((q z : ℕ) → target n q ≡ Some z → (y : ℕ) × (target m y ≡ Some z)) → AllDo does t a m → AllDo does t a n
do_alike does t a m n into from all =
    let kept = into all.some.0 all.some.1 all.some.2 in
    record { some = (kept.0, all.some.1, kept.1, all.some.3); each = λ q z is. let old = from q z is in all.each old.0 z old.1 }

-- maps with the same targets agree in the same
pub agrees_alike : (t : Tables) (a : ℕ) (m n : StateMap) → ((q z : ℕ) → target m q ≡ Some z → (y : ℕ) × (target n y ≡ Some z)) → ((q z : ℕ) → target n q ≡ Some z → (y : ℕ) × (target m y ≡ Some z)) → (g : Agree) → Agrees t a m g → Agrees t a n g
agrees_alike t a m n into from agree.NoneLeft none = λ q z is. let old = from q z is in none old.0 z old.1
agrees_alike t a m n into from agree.Shift all = do_alike IsShift t a m n into from all
agrees_alike t a m n into from (agree.Reduce r) all = do_alike (λ act. act ≡ Reduce r) t a m n into from all
agrees_alike t a m n into from agree.Several (two_differ q x y z first second differ) =
    let one = into q x first in let other = into y z second in two_differ one.0 x other.0 z one.1 other.1 differ
agrees_alike t a m n into from agree.Several (one_accepts q x is accepts) = let kept = into q x is in one_accepts kept.0 x kept.1 accepts

-- ---- one agreement

not_none : (does : Act → Type 0) (t : Tables) (a : ℕ) (m : StateMap) → ((act : Act) → does act → act ≢ Error) → AllDo does t a m → NoneLeft t a m → ⊥
not_none does t a m acts all none = acts (act_in t all.some.1 a) all.some.3 (none all.some.0 all.some.1 all.some.2)

shift_acts : (act : Act) → IsShift act → act ≢ Error
shift_acts act shift err = absurd (cc (shift.1, err))

reduce_acts : (r : ℕ) (act : Act) → act ≡ Reduce r → act ≢ Error
reduce_acts r act reduces err = absurd (cc (reduces, err))

error_moves_not : (act : Act) → (Differ Error act → ⊥) × (Differ act Error → ⊥)
error_moves_not (Shift p) = (λ d. d, λ d. d)
error_moves_not (Reduce r) = (λ d. d, λ d. d)
error_moves_not Accept = (λ d. d, λ d. d)
error_moves_not Error = (λ d. d, λ d. d)

-- nothing that is done twice differs
abbrev IsOneMove : (Act → Type 0) → Type 0
IsOneMove does = (act other : Act) → does act → does other → Differ act other → ⊥

one_shift : IsOneMove IsShift
one_shift act other is also differ = differ_are is.1 also.1 differ

one_reduction : (r : ℕ) → IsOneMove (λ act. act ≡ Reduce r)
one_reduction r act other is also differ = differ_are {x = Reduce r} {y = Reduce r} is also differ refl

several_none : (t : Tables) (a : ℕ) (m : StateMap) → AreSeveral t a m → NoneLeft t a m → ⊥
several_none t a m (two_differ q p y z first second differ) none = (error_moves_not (act_in t z a)).0 (differ_are (none q p first) refl differ)
several_none t a m (one_accepts q p is accepts) none = absurd (cc (accepts, none q p is))

several_all : (does : Act → Type 0) (t : Tables) (a : ℕ) (m : StateMap) → IsOneMove does → (does Accept → ⊥) → AreSeveral t a m → AllDo does t a m → ⊥
several_all does t a m one accepts_not (two_differ q p y z first second differ) all = cases (all.each q p first) (all.each y z second)
  where
    cases : (act_in t p a ≡ Error) ⊎ does (act_in t p a) → (act_in t z a ≡ Error) ⊎ does (act_in t z a) → ⊥
    cases (inl err) other = (error_moves_not (act_in t z a)).0 (differ_are err refl differ)
    cases (inr is) (inl err) = (error_moves_not (act_in t p a)).1 (differ_are refl err differ)
    cases (inr is) (inr also) = one (act_in t p a) (act_in t z a) is also differ
several_all does t a m one accepts_not (one_accepts q p is accepts) all = cases (all.each q p is)
  where
    cases : (act_in t p a ≡ Error) ⊎ does (act_in t p a) → ⊥
    cases (inl err) = absurd (cc (accepts, err))
    cases (inr does_it) = accepts_not (subst does accepts does_it)

not_both : (first second : Act → Type 0) (t : Tables) (a : ℕ) (m : StateMap) → ((act : Act) → first act → act ≢ Error) → ((act : Act) → first act → second act → ⊥) → AllDo first t a m → AllDo second t a m → ⊥
not_both first second t a m acts apart all also = cases (also.each all.some.0 all.some.1 all.some.2)
  where
    cases : (act_in t all.some.1 a ≡ Error) ⊎ second (act_in t all.some.1 a) → ⊥
    cases (inl err) = acts (act_in t all.some.1 a) all.some.3 err
    cases (inr is) = apart (act_in t all.some.1 a) all.some.3 is

shift_reduces_not : (r : ℕ) (act : Act) → IsShift act → act ≡ Reduce r → ⊥
shift_reduces_not r act shift reduces = absurd (cc (shift.1, reduces))

same_rule : (r s : ℕ) (act : Act) → act ≡ Reduce r → (act ≡ Error) ⊎ (act ≡ Reduce s) → agree.Reduce r ≡ agree.Reduce s
same_rule r s act is (inl err) = absurd (reduce_acts r act is err)
same_rule r s act is (inr also) = let same : r ≡ s = cc (is, also) in ap agree.Reduce same

pub one_agreement_law : OneAgreementLaw
one_agreement_law t a m agree.NoneLeft agree.NoneLeft none also = refl
one_agreement_law t a m agree.NoneLeft agree.Shift none all = absurd (not_none IsShift t a m shift_acts all none)
one_agreement_law t a m agree.NoneLeft (agree.Reduce r) none all = absurd (not_none (λ act. act ≡ Reduce r) t a m (reduce_acts r) all none)
one_agreement_law t a m agree.NoneLeft agree.Several none several = absurd (several_none t a m several none)
one_agreement_law t a m agree.Shift agree.NoneLeft all none = absurd (not_none IsShift t a m shift_acts all none)
one_agreement_law t a m agree.Shift agree.Shift all also = refl
one_agreement_law t a m agree.Shift (agree.Reduce r) all also = absurd (not_both IsShift (λ act. act ≡ Reduce r) t a m shift_acts (shift_reduces_not r) all also)
one_agreement_law t a m agree.Shift agree.Several all several = absurd (several_all IsShift t a m one_shift (λ is. absurd (cc is.1)) several all)
one_agreement_law t a m (agree.Reduce r) agree.NoneLeft all none = absurd (not_none (λ act. act ≡ Reduce r) t a m (reduce_acts r) all none)
one_agreement_law t a m (agree.Reduce r) agree.Shift all also = absurd (not_both IsShift (λ act. act ≡ Reduce r) t a m shift_acts (shift_reduces_not r) also all)
one_agreement_law t a m (agree.Reduce r) (agree.Reduce s) all also = same_rule r s (act_in t all.some.1 a) all.some.3 (also.each all.some.0 all.some.1 all.some.2)
one_agreement_law t a m (agree.Reduce r) agree.Several all several = absurd (several_all (λ act. act ≡ Reduce r) t a m (one_reduction r) (λ is. absurd (cc is)) several all)
one_agreement_law t a m agree.Several agree.NoneLeft several none = absurd (several_none t a m several none)
one_agreement_law t a m agree.Several agree.Shift several all = absurd (several_all IsShift t a m one_shift (λ is. absurd (cc is.1)) several all)
one_agreement_law t a m agree.Several (agree.Reduce r) several all = absurd (several_all (λ act. act ≡ Reduce r) t a m (one_reduction r) (λ is. absurd (cc is)) several all)
one_agreement_law t a m agree.Several agree.Several several also = refl
