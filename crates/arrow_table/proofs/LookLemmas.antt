-- Targets of a map, by its classes.
use Rattle.std.proofs.Common.{◌≡◌, ◌≢◌, ℕ, ◌+◌, ◌<◌, ◌⊎◌, inl, inr, List, [], ◌∷◌, ◌++◌, length, take, Some, sym, ap, ◌∙◌, subst, arith}
use Rattle.std.specs.Prelude.{All, slice_get}
use Rattle.std.proofs.lemmas.List.{take_more, take_all}
use Rattle.std.proofs.lemmas.List.Elements.{All-head, All-tail, All-push, All-contains}
use Rattle.std.proofs.lemmas.Option.{slice_get_within, get_or_from_slice_get}
use Rattle.table_data.specs.declared.act.Act.TheVariants.{Error}
use Rattle.table_data.specs.Tables.{Tables, act_in}
use Rattle.map_theory.specs.declared.agree.Agree.{Agree}
use Rattle.map_theory.specs.declared.agree.Agree.TheVariants as agree
use Rattle.map_theory.specs.Maps.{StateMap, target, IsRising}
use Rattle.map_theory.specs.Agreements.{NoneLeft, AreSeveral, Agrees}
use Rattle.map_theory.proofs.MapLemmas.{target_cases}
use Rattle.state_sets.specs.Classes.{targets_of, ClassLaw}
use Rattle.state_sets.specs.Within.{AreWithin}
use Rattle.arrow_table.specs.Looks.{NoneErrs, SomeErrs}

-- the target of a class is that of some start
pub class_start : ClassLaw → (m : StateMap) → IsRising m → (k p : ℕ) → slice_get (targets_of m) k ≡ Some p → (q : ℕ) × (target m q ≡ Some p)
class_start law m rising k p is = ((law m rising).1 p).0 (k, slice_get_within (targets_of m) k p is, get_or_from_slice_get (targets_of m) k p p is)

-- a target of a map within tables is a state of them
pub target_in : (n : ℕ) (m : StateMap) (q p : ℕ) → AreWithin n m → target m q ≡ Some p → p < n
target_in n [] q p all is = absurd (cc)
target_in n (pair ∷ m) q p all is = cases (target_cases pair m q p is) (target_in n m q p (All-tail (λ (x : ℕ × ℕ). (x.0 < n) × (x.1 < n)) pair m all))
  where
    cases : (pair.1 ≡ p) ⊎ (target m q ≡ Some p) → (target m q ≡ Some p → p < n) → p < n
    cases (inl same) go = let first = All-head (λ (x : ℕ × ℕ). (x.0 < n) × (x.1 < n)) pair m all in omega (arith, first.1, same)
    cases (inr later) go = go later

pub class_within : ClassLaw → (n : ℕ) (m : StateMap) → IsRising m → AreWithin n m → (k p : ℕ) → slice_get (targets_of m) k ≡ Some p → p < n
class_within law n m rising all k p is = let start = class_start law m rising k p is in target_in n m start.0 p all start.1

pub some_at : ClassLaw → (t : Tables) (a : ℕ) (m : StateMap) → IsRising m → (k p : ℕ) → slice_get (targets_of m) k ≡ Some p → act_in t p a ≡ Error → SomeErrs t a m
some_at law t a m rising k p is error = let start = class_start law m rising k p is in (start.0, p, start.1, error)

-- the first ones, and one more that doesn't err
pub more_live : (t : Tables) (a : ℕ) (ps : List ℕ) (k p : ℕ) → slice_get ps k ≡ Some p → act_in t p a ≢ Error → All (λ z. act_in t z a ≢ Error) (take k ps) → All (λ z. act_in t z a ≢ Error) (take (k + 1) ps)
more_live t a ps k p is does all =
    subst (λ l. All (λ z. act_in t z a ≢ Error) l) (sym (take_more ps k p (slice_get_within ps k p is) ∙ ap (λ x. take k ps ++ x ∷ []) (get_or_from_slice_get ps k p p is))) (All-push (λ z. act_in t z a ≢ Error) (take k ps) p all does)

pub none_in : ClassLaw → (t : Tables) (a : ℕ) (m : StateMap) (k : ℕ) → IsRising m → k ≡ length (targets_of m) → All (λ z. act_in t z a ≢ Error) (take k (targets_of m)) → NoneErrs t a m
none_in law t a m k rising whole all q z is =
    let every : All (λ z. act_in t z a ≢ Error) (targets_of m) = subst (λ l. All (λ z. act_in t z a ≢ Error) l) (take_all k (targets_of m) (omega (arith, whole))) all in
    All-contains (λ z. act_in t z a ≢ Error) (targets_of m) z every (((law m rising).1 z).1 (q, is))

-- what agrees on nothing
pub stuck_by : (t : Tables) (a : ℕ) (m : StateMap) (r : Agree) → (r ≡ agree.NoneLeft) ⊎ (r ≡ agree.Several) → Agrees t a m r → NoneLeft t a m ⊎ AreSeveral t a m
stuck_by t a m r (inl e) agrees = inl (subst (λ x. Agrees t a m x) e agrees)
stuck_by t a m r (inr e) agrees = inr (subst (λ x. Agrees t a m x) e agrees)
