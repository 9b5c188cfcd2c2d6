-- Deaths behind the faults of a floor, and what a look leaves of a leaf.
use Rattle.std.proofs.Common.{◌≡◌, ◌≢◌, ℕ, suc, ◌<◌, ◌⊎◌, inl, inr, Bool, eqb, if◌then◌else◌, List, [], ◌∷◌, ◌++◌, length, Option, Some, None, refl, sym, ap, ◌∙◌, subst, arith}
use Rattle.std.specs.Prelude.{All, AllPairs, IsSome, is_some, option_and_then}
use Rattle.std.specs.List.{cons_option}
use Rattle.std.proofs.lemmas.Bool.{cases_eq, cond-true, cond-false, eq-eqb, ne_eqb}
use Rattle.std.proofs.lemmas.List.Elements.{All-nil, All-cons, All-head, All-tail, All-weaker, All-append}
use Rattle.std.proofs.lemmas.List.Kept.{AllPairs-cons}
use Rattle.grammar_data.specs.declared.token.Token.{Token as TextToken}
use Rattle.tree_theory.specs.Stores.{Store}
use Rattle.table_data.specs.declared.act.Act.{Act}
use Rattle.table_data.specs.declared.act.Act.TheVariants.{Shift, Reduce, Accept, Error}
use Rattle.table_data.specs.Tables.{Tables, act_in}
use Rattle.map_theory.specs.declared.agree.Agree.{Agree}
use Rattle.map_theory.specs.declared.agree.Agree.TheVariants as agree
use Rattle.map_theory.specs.Maps.{StateMap, target, IsRising, IsMapOf}
use Rattle.map_theory.specs.Agreements.{two_differ, one_accepts, Agrees}
use Rattle.map_theory.proofs.MapLemmas.{target_at, target_other, target_above, rising_above}
use Rattle.map_theory.proofs.AgreementLemmas.{some_agreement_law}
use Rattle.part_theory.specs.Parts.{FirstPart}
use Rattle.piece_theory.specs.Pieces.{Fault, Floor, Held, Piece, fault_at}
use Rattle.piece_theory.specs.WellMade.{start_of, AreStacked, on_ground, on_floor}
use Rattle.level_laws.specs.Levels.{fault_of, dying}
use Rattle.level_laws.specs.Growing.{FollowOn, follow, IsGrowing}
use Rattle.level_laws.proofs.LevelLemmas.{or_none, no_some, some_of, look_starts_law, look_map_law}
use Rattle.level_laws.proofs.GrowingLemmas.{last_map_law}
use Rattle.leaf_laws.specs.Leaves.{HasStart, start_alive}
use Rattle.leaf_laws.proofs.EndLemmas.{apart_of, open_wide_law, leaf_open_law}
use Rattle.leaf_laws.proofs.StepLemmas.{lives_by}
use Rattle.leaf_laws.proofs.PartLemmas.{none_part_law, several_part_law, differ_does}
use Rattle.look_laws.specs.Deaths.{deaths, DeathsLaw, LooksByDeathsLaw, OpenLooksByDeathsLaw, LookStartLaw, StuckPartLaw}

-- ---- faults in a list

pub fault_first : (x : Fault) (xs : List Fault) (q : ℕ) → x.start ≡ q → fault_at (x ∷ xs) q ≡ Some x
fault_first x xs q same = cond-true (eqb x.start q) (Some x) (fault_at xs q) (eq-eqb x.start q same)

pub fault_other : (x : Fault) (xs : List Fault) (q : ℕ) → x.start ≢ q → fault_at (x ∷ xs) q ≡ fault_at xs q
fault_other x xs q other = cond-false (eqb x.start q) (Some x) (fault_at xs q) (ne_eqb x.start q other)

-- a fault that is found is found with more behind
pub fault_before : (xs ys : List Fault) (q : ℕ) → IsSome (fault_at xs q) → fault_at (xs ++ ys) q ≡ fault_at xs q
fault_before [] ys q some = absurd (no_some {A = Fault} {o = None} refl some)
fault_before (x ∷ xs) ys q some = cases (cases_eq x.start q) (fault_before xs ys q)
  where
    cases : (x.start ≡ q) ⊎ (x.start ≡ q → ⊥) → (IsSome (fault_at xs q) → fault_at (xs ++ ys) q ≡ fault_at xs q) → fault_at (x ∷ (xs ++ ys)) q ≡ fault_at (x ∷ xs) q
    cases (inl same) go = fault_first x (xs ++ ys) q same ∙ sym (fault_first x xs q same)
    cases (inr other) go = fault_other x (xs ++ ys) q other ∙ go (sym (ap is_some (fault_other x xs q other)) ∙ some) ∙ sym (fault_other x xs q other)

pub fault_behind : (xs ys : List Fault) (q : ℕ) → fault_at xs q ≡ None → fault_at (xs ++ ys) q ≡ fault_at ys q
fault_behind [] ys q none = refl
fault_behind (x ∷ xs) ys q none = cases (cases_eq x.start q) (fault_behind xs ys q)
  where
    cases : (x.start ≡ q) ⊎ (x.start ≡ q → ⊥) → (fault_at xs q ≡ None → fault_at (xs ++ ys) q ≡ fault_at ys q) → fault_at (x ∷ (xs ++ ys)) q ≡ fault_at ys q
    cases (inl same) go = absurd (no_some none (some_of (fault_first x xs q same)))
    cases (inr other) go = fault_other x (xs ++ ys) q other ∙ go (sym (fault_other x xs q other) ∙ none)

-- the faults after the first
faults_above : (x : Fault) (xs : List Fault) → AllPairs {X = Fault} (λ a b. a.start ≢ b.start) (x ∷ xs) → All {X = Fault} (λ y. x.start ≢ y.start) xs
faults_above x xs once = λ k d within. once 0 (suc k) d (omega arith) (omega arith)

faults_tail : (x : Fault) (xs : List Fault) → AllPairs {X = Fault} (λ a b. a.start ≢ b.start) (x ∷ xs) → AllPairs {X = Fault} (λ a b. a.start ≢ b.start) xs
faults_tail x xs once = λ i j d less within. once (suc i) (suc j) d (omega (arith, less)) (omega (arith, within))

-- faults of other starts are put behind
pub once_behind : (xs ys : List Fault) → AllPairs {X = Fault} (λ a b. a.start ≢ b.start) xs → AllPairs {X = Fault} (λ a b. a.start ≢ b.start) ys → All {X = Fault} (λ y. fault_at xs y.start ≡ None) ys → AllPairs {X = Fault} (λ a b. a.start ≢ b.start) (xs ++ ys)
once_behind [] ys once more apart = more
once_behind (x ∷ xs) ys once more apart =
    AllPairs-cons {X = Fault} (λ a b. a.start ≢ b.start) x (xs ++ ys)
    (All-append {X = Fault} (λ y. x.start ≢ y.start) xs ys (faults_above x xs once) (All-weaker {X = Fault} (λ y. fault_at (x ∷ xs) y.start ≡ None) (λ y. x.start ≢ y.start) (λ y none same. no_some none (some_of (fault_first x xs y.start same))) ys apart))
    (once_behind xs ys (faults_tail x xs once) more (All-weaker {X = Fault} (λ y. fault_at (x ∷ xs) y.start ≡ None) (λ y. fault_at xs y.start ≡ None) (λ y none. sym (fault_other x xs y.start (λ same. no_some none (some_of (fault_first x xs y.start same)))) ∙ none) ys apart))

rising_tail : (pair : ℕ × ℕ) (m : StateMap) → IsRising (pair ∷ m) → IsRising m
rising_tail pair m rising = λ i j d less within. rising (suc i) (suc j) d (omega (arith, less)) (omega (arith, within))

-- ---- deaths

-- what is put in front of the deaths for a pair
abbrev put_death : TextToken → ℕ → ℕ → ℕ → Act → List Fault → List Fault
put_death token index q z (Shift p) more = more
put_death token index q z (Reduce r) more = more
put_death token index q z Accept more = more
put_death token index q z Error more = record { start = q; index = index; token = token; state = z } ∷ more

module _ (t : Tables) (token : TextToken) (index : ℕ) where
  deaths_more : (pair : ℕ × ℕ) (m : StateMap) → deaths t token index (pair ∷ m) ≡ put_death token index pair.0 pair.1 (act_in t pair.1 token.id) (deaths t token index m)
  deaths_more pair m = by_act (act_in t pair.1 token.id)
    where
      by_act : (act : Act) → cons_option (fault_of token index pair.0 pair.1 act) (deaths t token index m) ≡ put_death token index pair.0 pair.1 act (deaths t token index m)
      by_act (Shift p) = refl
      by_act (Reduce r) = refl
      by_act Accept = refl
      by_act Error = refl

  -- what is found is what the start dies of
  at_deaths : (m : StateMap) → IsRising m → (q : ℕ) → fault_at (deaths t token index m) q ≡ dying t token index m q
  at_deaths [] rising q = refl
  at_deaths (pair ∷ m) rising q = ap (λ l. fault_at l q) (deaths_more pair m) ∙ cases (cases_eq pair.0 q) (at_deaths m (rising_tail pair m rising) q)
    where
      here : (act : Act) → pair.0 ≡ q → fault_at (deaths t token index m) q ≡ None → fault_at (put_death token index pair.0 pair.1 act (deaths t token index m)) q ≡ fault_of token index q pair.1 act
      here (Shift p) same none = none
      here (Reduce r) same none = none
      here Accept same none = none
      here Error same none = fault_first (record { start = pair.0; index = index; token = token; state = pair.1 }) (deaths t token index m) q same ∙ ap (λ x. Some (record { start = x; index = index; token = token; state = pair.1 })) same

      there : (act : Act) → pair.0 ≢ q → fault_at (put_death token index pair.0 pair.1 act (deaths t token index m)) q ≡ fault_at (deaths t token index m) q
      there (Shift p) other = refl
      there (Reduce r) other = refl
      there Accept other = refl
      there Error other = fault_other (record { start = pair.0; index = index; token = token; state = pair.1 }) (deaths t token index m) q other

      cases : (pair.0 ≡ q) ⊎ (pair.0 ≡ q → ⊥) → fault_at (deaths t token index m) q ≡ dying t token index m q → fault_at (put_death token index pair.0 pair.1 (act_in t pair.1 token.id) (deaths t token index m)) q ≡ dying t token index (pair ∷ m) q
      cases (inl same) go =
          let none : target m q ≡ None = ap (target m) (sym same) ∙ target_above m pair.0 (rising_above pair m rising) in
          here (act_in t pair.1 token.id) same (go ∙ ap (option_and_then (λ p. fault_of token index q p (act_in t p token.id))) none) ∙ sym (ap (option_and_then (λ p. fault_of token index q p (act_in t p token.id))) (target_at pair m q same))
      cases (inr other) go = there (act_in t pair.1 token.id) other ∙ go ∙ sym (ap (option_and_then (λ p. fault_of token index q p (act_in t p token.id))) (target_other pair m q other))

  -- what holds of the starts of a map holds of those of its deaths
  start_deaths : (P : ℕ → Type 0) (m : StateMap) → All (λ (pair : ℕ × ℕ). P pair.0) m → All {X = Fault} (λ y. P y.start) (deaths t token index m)
  start_deaths P [] all = All-nil {X = Fault} (λ y. P y.start)
  start_deaths P (pair ∷ m) all = subst (λ l. All {X = Fault} (λ y. P y.start) l) (sym (deaths_more pair m)) (by_act (act_in t pair.1 token.id) (start_deaths P m (All-tail (λ (x : ℕ × ℕ). P x.0) pair m all)))
    where
      by_act : (act : Act) → All {X = Fault} (λ y. P y.start) (deaths t token index m) → All {X = Fault} (λ y. P y.start) (put_death token index pair.0 pair.1 act (deaths t token index m))
      by_act (Shift p) more = more
      by_act (Reduce r) more = more
      by_act Accept more = more
      by_act Error more = All-cons {X = Fault} (λ y. P y.start) (record { start = pair.0; index = index; token = token; state = pair.1 }) (deaths t token index m) (All-head (λ (x : ℕ × ℕ). P x.0) pair m all) more

  once_deaths : (m : StateMap) → IsRising m → AllPairs {X = Fault} (λ a b. a.start ≢ b.start) (deaths t token index m)
  once_deaths [] rising = λ i j d less within. absurd (omega (arith, within))
  once_deaths (pair ∷ m) rising = subst (λ l. AllPairs {X = Fault} (λ a b. a.start ≢ b.start) l) (sym (deaths_more pair m)) (by_act (act_in t pair.1 token.id) (once_deaths m (rising_tail pair m rising)))
    where
      later : All (λ (x : ℕ × ℕ). pair.0 ≢ x.0) m
      later = All-weaker (λ (x : ℕ × ℕ). pair.0 < x.0) (λ x. pair.0 ≢ x.0) (λ x less same. absurd (omega (arith, less, same))) m (rising_above pair m rising)

      by_act : (act : Act) → AllPairs {X = Fault} (λ a b. a.start ≢ b.start) (deaths t token index m) → AllPairs {X = Fault} (λ a b. a.start ≢ b.start) (put_death token index pair.0 pair.1 act (deaths t token index m))
      by_act (Shift p) more = more
      by_act (Reduce r) more = more
      by_act Accept more = more
      by_act Error more = AllPairs-cons {X = Fault} (λ a b. a.start ≢ b.start) (record { start = pair.0; index = index; token = token; state = pair.1 }) (deaths t token index m) (start_deaths (λ q. pair.0 ≢ q) m later) more

-- what holds of each start that has a target holds of all
pub starts_all : (P : ℕ → Type 0) (m : StateMap) → ((q : ℕ) → IsSome (target m q) → P q) → All (λ (pair : ℕ × ℕ). P pair.0) m
starts_all P [] each = All-nil (λ (pair : ℕ × ℕ). P pair.0)
starts_all P (pair ∷ m) each = All-cons (λ (x : ℕ × ℕ). P x.0) pair m (each pair.0 (some_of (target_at pair m pair.0 refl))) (starts_all P m (λ q is. each q (more q is (cases_eq pair.0 q))))
  where
    more : (q : ℕ) → IsSome (target m q) → (pair.0 ≡ q) ⊎ (pair.0 ≡ q → ⊥) → IsSome (target (pair ∷ m) q)
    more q is (inl same) = some_of (target_at pair m q same)
    more q is (inr other) = ap is_some (target_other pair m q other) ∙ is

pub deaths_law : DeathsLaw
deaths_law t token index tops alive f g rising lives wide tight apart once same restricted faults = record {
  opened = same;
  stay = λ q none. left.targets q ∙ ap (λ (o : Option Fault). if is_some o then None else target f.starts q) none;
  gone = λ q some. left.targets q ∙ ap (λ (b : Bool). if b then None else target f.starts q) some;
  dead = λ q is. ap (λ l. fault_at l q) faults ∙ fault_behind f.faults (deaths t token index tops) q (apart q is) ∙ at_deaths t token index tops rising q;
  kept = λ q none. ap (λ l. fault_at l q) faults ∙ kept q none (or_none (fault_at f.faults q));
  rising = left.rising;
  once = subst (λ l. AllPairs {X = Fault} (λ a b. a.start ≢ b.start) l) (sym faults) (once_behind f.faults (deaths t token index tops) once (once_deaths t token index tops rising) (start_deaths t token index (λ q. fault_at f.faults q ≡ None) tops (starts_all (λ q. fault_at f.faults q ≡ None) tops clear)));
}
  where
    left : IsMapOf (λ q. if is_some (dying t token index tops q) then None else target f.starts q) g.starts
    left = look_starts_law t token index tops alive f.starts g.starts lives wide restricted

    kept : (q : ℕ) → target f.starts q ≡ None → (fault_at f.faults q ≡ None) ⊎ IsSome (fault_at f.faults q) → fault_at (f.faults ++ deaths t token index tops) q ≡ fault_at f.faults q
    kept q none (inl nothing) = fault_behind f.faults (deaths t token index tops) q nothing ∙ at_deaths t token index tops rising q ∙ ap (option_and_then (λ p. fault_of token index q p (act_in t p token.id))) (tight q none) ∙ sym nothing
    kept q none (inr some) = fault_before f.faults (deaths t token index tops) q some

    clear : (q : ℕ) → IsSome (target tops q) → fault_at f.faults q ≡ None
    clear q is = by_start q is (or_none (target f.starts q))
      where
        by_start : (q : ℕ) → IsSome (target tops q) → (target f.starts q ≡ None) ⊎ IsSome (target f.starts q) → fault_at f.faults q ≡ None
        by_start q is (inl none) = absurd (no_some (tight q none) is)
        by_start q is (inr some) = apart q some

-- ---- the look of a leaf

pub once_of : {t : Tables} {first : TextToken} {lower : List Floor} {f : Floor} → AreStacked t first lower f → AllPairs {X = Fault} (λ a b. a.start ≢ b.start) f.faults
once_of (on_ground unopened level) = level.once
once_of (on_floor opened stacked parts is some less level) = level.once

last_rising : {t : Tables} {store : Store} {alive : StateMap} (under : List Held) (h : Held) {from : ℕ → Option ℕ} → FollowOn t store alive from (under ++ h ∷ []) → IsRising h.states
last_rising [] h (follow x symbol rising at more) = rising
last_rising (e ∷ under) h (follow x symbol rising at more) = last_rising under h more

top_rising : {t : Tables} {store : Store} {p : Piece} {lower : List Floor} {f : Floor} {under : List Held} {h : Held} {stale : ℕ} → IsGrowing t store p lower f under h stale → IsRising h.states
top_rising {t} {store} {f = f} {under = under} {h = h} growing = last_rising under h (subst (λ l. FollowOn t store f.starts (start_of f.starts) l) growing.on_stack growing.maps)

pub open_looks_by_deaths_law : OpenLooksByDeathsLaw
open_looks_by_deaths_law t lawful size store p looked w token lower f g under h fresh stale piece first floors stack same restricted faults kid lives = record {
  first = first;
  floors = floors;
  stack = stack;
  moved = deaths_law t token (length w) h.states fresh.states f g (top_rising piece.growing) lives wide tight (apart_of piece.growing.floors) (once_of piece.growing.floors) same restricted faults;
  is_fresh = look_map_law t token (length w) f.starts g.starts h fresh tight (look_starts_law t token (length w) h.states fresh.states f.starts g.starts lives wide restricted) kid lives;
}
  where
    wide : (q : ℕ) → IsSome (target f.starts q) → IsSome (target h.states q)
    wide = open_wide_law t lawful size store p w (token ∷ []) lower f under h stale piece

    tight : (q : ℕ) → target f.starts q ≡ None → target h.states q ≡ None
    tight = last_map_law t store p lower f under h stale piece.growing

pub looks_by_deaths_law : LooksByDeathsLaw
looks_by_deaths_law t lawful size store p looked w token lower f g under h fresh stale leaf first floors stack same restricted faults kid lives =
    open_looks_by_deaths_law t lawful size store p looked w token lower f g under h fresh stale (leaf_open_law t store p w (token ∷ []) lower f under h stale leaf) first floors stack same restricted faults kid lives

not_error : {x : Act} → x ≢ Error → {act : Act} → act ≡ x → act ≢ Error
not_error not is error = not (sym is ∙ error)

shift_no_error : {p : ℕ} → Shift p ≡ Error → ⊥
shift_no_error e = cc

reduce_no_error : {r : ℕ} → Reduce r ≡ Error → ⊥
reduce_no_error e = cc

accept_no_error : Accept ≡ Error → ⊥
accept_no_error e = cc

pub look_start_law : LookStartLaw
look_start_law t lawful size store p looked w token rest lower f g under h fresh stale leaf look has =
    let some = some_agreement_law t token.id h.states (top_rising leaf.growing) in
    cases some.0 some.1
  where
    alive : (q z : ℕ) → target h.states q ≡ Some z → act_in t z token.id ≢ Error → HasStart t looked w g
    alive q z is does = let lives = lives_by t store p looked w token lower f g under h fresh stale leaf.growing look q z is does in start_alive q lives.0

    cases : (agreement : Agree) → Agrees t token.id h.states agreement → HasStart t looked w g ⊎ FirstPart t looked.first.id (w ++ token ∷ rest) (length w)
    cases agree.NoneLeft none = inr (subst (λ (x : TextToken). FirstPart t x.id (w ++ token ∷ rest) (length w)) (sym look.first) (none_part_law t lawful size store p w token rest lower f under h stale leaf has none))
    cases agree.Shift all = inl (alive all.some.0 all.some.1 all.some.2 (not_error shift_no_error all.some.3.1))
    cases (agree.Reduce r) all = inl (alive all.some.0 all.some.1 all.some.2 (not_error reduce_no_error all.some.3))
    cases agree.Several (two_differ q x y z first second differ) = inl (alive q x first (differ_does (act_in t x token.id) (act_in t z token.id) differ).0)
    cases agree.Several (one_accepts q x is accepts) = inl (alive q x is (not_error accept_no_error accepts))

pub stuck_part_law : StuckPartLaw
stuck_part_law t lawful size store p w token rest lower f under h stale leaf (inr part) reason = part
stuck_part_law t lawful size store p w token rest lower f under h stale leaf (inl has) (inl none) = none_part_law t lawful size store p w token rest lower f under h stale leaf has none
stuck_part_law t lawful size store p w token rest lower f under h stale leaf (inl has) (inr several) = several_part_law t lawful size store p w token rest lower f under h stale leaf has several
