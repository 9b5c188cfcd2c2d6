-- Faults of a floor that are put behind those of another, and the starts that are left.
use Rattle.std.proofs.Common.{◌≡◌, ◌≢◌, ℕ, ◌<◌, ◌⊎◌, inl, inr, Bool, true, false, if◌then◌else◌, List, [], ◌∷◌, ◌++◌, Option, Some, None, refl, sym, ap, ◌∙◌, subst, arith}
use Rattle.std.specs.Prelude.{All, AllPairs, IsSome, is_some, option_and_then}
use Rattle.std.specs.List.{cons_option}
use Rattle.std.specs.Option.{option_map}
use Rattle.std.proofs.lemmas.Bool.{cases_eq}
use Rattle.std.proofs.lemmas.List.Elements.{All-nil, All-cons, All-head, All-tail, All-weaker}
use Rattle.std.proofs.lemmas.List.Kept.{AllPairs-cons}
use Rattle.map_theory.specs.Maps.{StateMap, target, IsRising}
use Rattle.map_theory.proofs.MapLemmas.{rising_tail, rising_above, target_at, target_other, target_above}
use Rattle.piece_theory.specs.Pieces.{Fault, Floor, fault_at}
use Rattle.level_laws.proofs.LevelLemmas.{or_none, no_some, some_of, value_of}
use Rattle.look_laws.proofs.DeathLemmas.{fault_first, fault_other, fault_before, fault_behind, once_behind, starts_all}
use Rattle.join_theory.specs.Faults.{carried, carried_to}
use Rattle.join_theory.proofs.AliveLemmas.{carried_none, carried_some}
use Rattle.landing_laws.specs.Carrying.{clear_on, carried_faults, CarryLaw, CarryNoneLaw}

-- ---- the list of the faults

-- what is put in front for a pair
abbrev put_fault : ℕ → ℕ → Option Fault → List Fault → List Fault
put_fault tokens q None more = more
put_fault tokens q (Some x) more = carried_to tokens q x ∷ more

-- what is carried to a start from the state over it
abbrev carried_from : ℕ → Floor → ℕ → Option ℕ → Option Fault
carried_from tokens f q o = option_map (carried_to tokens q) (option_and_then (fault_at f.faults) o)

module _ (tokens : ℕ) (f : Floor) where
  carried_more : (pair : ℕ × ℕ) (m : StateMap) → carried_faults tokens f (pair ∷ m) ≡ put_fault tokens pair.0 (fault_at f.faults pair.1) (carried_faults tokens f m)
  carried_more pair m = by (fault_at f.faults pair.1)
    where
      by : (o : Option Fault) → cons_option (option_map (carried_to tokens pair.0) o) (carried_faults tokens f m) ≡ put_fault tokens pair.0 o (carried_faults tokens f m)
      by None = refl
      by (Some x) = refl

  -- what is found is the fault that is carried to the start
  at_carried : (m : StateMap) → IsRising m → (q : ℕ) → fault_at (carried_faults tokens f m) q ≡ carried tokens (target m) f q
  at_carried [] rising q = refl
  at_carried (pair ∷ m) rising q = ap (λ l. fault_at l q) (carried_more pair m) ∙ cases (cases_eq pair.0 q) (at_carried m (rising_tail pair m rising) q)
    where
      here : (o : Option Fault) → pair.0 ≡ q → fault_at (carried_faults tokens f m) q ≡ None → fault_at (put_fault tokens pair.0 o (carried_faults tokens f m)) q ≡ option_map (carried_to tokens q) o
      here None same none = none
      here (Some x) same none = fault_first (carried_to tokens pair.0 x) (carried_faults tokens f m) q same ∙ ap (λ y. Some (carried_to tokens y x)) same

      there : (o : Option Fault) → pair.0 ≢ q → fault_at (put_fault tokens pair.0 o (carried_faults tokens f m)) q ≡ fault_at (carried_faults tokens f m) q
      there None other = refl
      there (Some x) other = fault_other (carried_to tokens pair.0 x) (carried_faults tokens f m) q other

      cases : (pair.0 ≡ q) ⊎ (pair.0 ≡ q → ⊥) → fault_at (carried_faults tokens f m) q ≡ carried tokens (target m) f q → fault_at (put_fault tokens pair.0 (fault_at f.faults pair.1) (carried_faults tokens f m)) q ≡ carried tokens (target (pair ∷ m)) f q
      cases (inl same) go =
          let none : target m q ≡ None = ap (target m) (sym same) ∙ target_above m pair.0 (rising_above pair m rising) in
          here (fault_at f.faults pair.1) same (go ∙ ap (carried_from tokens f q) none) ∙ sym (ap (carried_from tokens f q) (target_at pair m q same))
      cases (inr other) go = there (fault_at f.faults pair.1) other ∙ go ∙ sym (ap (carried_from tokens f q) (target_other pair m q other))

  -- what holds of the starts of a map holds of those of the faults
  start_carried : (P : ℕ → Type 0) (m : StateMap) → All (λ (pair : ℕ × ℕ). P pair.0) m → All {X = Fault} (λ y. P y.start) (carried_faults tokens f m)
  start_carried P [] all = All-nil {X = Fault} (λ y. P y.start)
  start_carried P (pair ∷ m) all = subst (λ l. All {X = Fault} (λ y. P y.start) l) (sym (carried_more pair m)) (by (fault_at f.faults pair.1) (start_carried P m (All-tail (λ (x : ℕ × ℕ). P x.0) pair m all)))
    where
      by : (o : Option Fault) → All {X = Fault} (λ y. P y.start) (carried_faults tokens f m) → All {X = Fault} (λ y. P y.start) (put_fault tokens pair.0 o (carried_faults tokens f m))
      by None more = more
      by (Some x) more = All-cons {X = Fault} (λ y. P y.start) (carried_to tokens pair.0 x) (carried_faults tokens f m) (All-head (λ (x1 : ℕ × ℕ). P x1.0) pair m all) more

  once_carried : (m : StateMap) → IsRising m → AllPairs {X = Fault} (λ a b. a.start ≢ b.start) (carried_faults tokens f m)
  once_carried [] rising = λ i j d less within. absurd (omega (arith, within))
  once_carried (pair ∷ m) rising = subst (λ l. AllPairs {X = Fault} (λ a b. a.start ≢ b.start) l) (sym (carried_more pair m)) (by (fault_at f.faults pair.1) (once_carried m (rising_tail pair m rising)))
    where
      above : All (λ (x : ℕ × ℕ). pair.0 ≢ x.0) m
      above = All-weaker (λ (x : ℕ × ℕ). pair.0 < x.0) (λ x. pair.0 ≢ x.0) (λ x less same. absurd (omega (arith, less, same))) m (rising_above pair m rising)

      by : (o : Option Fault) → AllPairs {X = Fault} (λ a b. a.start ≢ b.start) (carried_faults tokens f m) → AllPairs {X = Fault} (λ a b. a.start ≢ b.start) (put_fault tokens pair.0 o (carried_faults tokens f m))
      by None more = more
      by (Some x) more = AllPairs-cons {X = Fault} (λ a b. a.start ≢ b.start) (carried_to tokens pair.0 x) (carried_faults tokens f m) (start_carried (λ q. pair.0 ≢ q) m above) more

-- the same states give the same faults
same_carried : (tokens : ℕ) (states others : ℕ → Option ℕ) (f : Floor) (q : ℕ) → states q ≡ others q → carried tokens states f q ≡ carried tokens others f q
same_carried tokens states others f q same = ap (carried_from tokens f q) same

if_none : (b : Bool) → ◌≡◌ {A = Option ℕ} (if b then None else None) None
if_none true = refl
if_none false = refl

-- ---- the floor on which they are put

pub carry_law : CarryLaw
carry_law tokens tops left states e g f over each lefts same restricted faults = record {
  moved = record {
    opened = same;
    stay = λ q none. stay q none (or_none (target e.starts q));
    gone = λ q some. gone q some (or_none (target e.starts q));
    dead = λ q alive. ap (λ l. fault_at l q) faults ∙ fault_behind e.faults (carried_faults tokens f tops) q (each.apart q alive) ∙ at_carried tokens f tops over.rising q ∙ same_carried tokens (target tops) states f q (over.same q alive);
    kept = λ q none. ap (λ l. fault_at l q) faults ∙ kept q none (or_none (fault_at e.faults q));
    rising = restricted.rising;
    once = subst (λ l. AllPairs {X = Fault} (λ a b. a.start ≢ b.start) l) (sym faults) (once_behind e.faults (carried_faults tokens f tops) each.once (once_carried tokens f tops over.rising) (start_carried tokens f (λ q. fault_at e.faults q ≡ None) tops (starts_all (λ q. fault_at e.faults q ≡ None) tops clear)));
  };
  over = λ q. over_left q (or_none (target e.starts q));
}
  where
    left_at : (q z : ℕ) → target tops q ≡ Some z → target left q ≡ clear_on f z
    left_at q z at = lefts.targets q ∙ ap (option_and_then (clear_on f)) at

    left_clear : (q z : ℕ) → target tops q ≡ Some z → fault_at f.faults z ≡ None → target left q ≡ Some z
    left_clear q z at none = left_at q z at ∙ ap (λ (o : Option Fault). if is_some o then None else Some z) none

    left_none : (q z : ℕ) → target tops q ≡ Some z → IsSome (fault_at f.faults z) → target left q ≡ None
    left_none q z at some = left_at q z at ∙ ap (λ (b : Bool). if b then None else Some z) some

    starts_by : (q : ℕ) (o : Option ℕ) → target left q ≡ o → target g.starts q ≡ (if is_some o then target e.starts q else None)
    starts_by q o at = restricted.targets q ∙ ap (λ (o1 : Option ℕ). if is_some o1 then target e.starts q else None) at

    starts_none : (q : ℕ) → target e.starts q ≡ None → target g.starts q ≡ None
    starts_none q none = restricted.targets q ∙ ap (λ (o : Option ℕ). if is_some (target left q) then o else None) none ∙ if_none (is_some (target left q))

    no_carried : (q z : ℕ) → IsSome (target e.starts q) → target tops q ≡ Some z → carried tokens states f q ≡ None → fault_at f.faults z ≡ None
    no_carried q z alive at none = by (or_none (fault_at f.faults z))
      where
        by : (fault_at f.faults z ≡ None) ⊎ IsSome (fault_at f.faults z) → fault_at f.faults z ≡ None
        by (inl is) = is
        by (inr some) = let fault = value_of (fault_at f.faults z) some in absurd (no_some none (some_of (carried_some tokens states f q z fault.0 (sym (over.same q alive) ∙ at) fault.1)))

    stay : (q : ℕ) → carried tokens states f q ≡ None → (target e.starts q ≡ None) ⊎ IsSome (target e.starts q) → target g.starts q ≡ target e.starts q
    stay q none (inl dead) = starts_none q dead ∙ sym dead
    stay q none (inr alive) = let state = value_of (target tops q) (over.wide q alive) in starts_by q (Some state.0) (left_clear q state.0 state.1 (no_carried q state.0 alive state.1 none))

    gone : (q : ℕ) → IsSome (carried tokens states f q) → (target e.starts q ≡ None) ⊎ IsSome (target e.starts q) → target g.starts q ≡ None
    gone q some (inl dead) = starts_none q dead
    gone q some (inr alive) = by (or_none (fault_at f.faults state.0))
      where
        state : (z : ℕ) × (target tops q ≡ Some z)
        state = value_of (target tops q) (over.wide q alive)

        by : (fault_at f.faults state.0 ≡ None) ⊎ IsSome (fault_at f.faults state.0) → target g.starts q ≡ None
        by (inl none) = absurd (no_some (carried_none tokens states f q state.0 (sym (over.same q alive) ∙ state.1) none) some)
        by (inr fault) = starts_by q None (left_none q state.0 state.1 fault)

    kept : (q : ℕ) → target e.starts q ≡ None → (fault_at e.faults q ≡ None) ⊎ IsSome (fault_at e.faults q) → fault_at (e.faults ++ carried_faults tokens f tops) q ≡ fault_at e.faults q
    kept q none (inl nothing) = fault_behind e.faults (carried_faults tokens f tops) q nothing ∙ at_carried tokens f tops over.rising q ∙ same_carried tokens (target tops) (λ z. None) f q (over.tight q none) ∙ sym nothing
    kept q none (inr some) = fault_before e.faults (carried_faults tokens f tops) q some

    clear : (q : ℕ) → IsSome (target tops q) → fault_at e.faults q ≡ None
    clear q is = by (or_none (target e.starts q))
      where
        by : (target e.starts q ≡ None) ⊎ IsSome (target e.starts q) → fault_at e.faults q ≡ None
        by (inl none) = absurd (no_some (over.tight q none) is)
        by (inr some) = each.apart q some

    over_by : (q : ℕ) (o : Option ℕ) → target g.starts q ≡ o → (if is_some (target g.starts q) then target tops q else None) ≡ (if is_some o then target tops q else None)
    over_by q o at = ap (λ (o1 : Option ℕ). if is_some o1 then target tops q else None) at

    over_left : (q : ℕ) → (target e.starts q ≡ None) ⊎ IsSome (target e.starts q) → target left q ≡ (if is_some (target g.starts q) then target tops q else None)
    over_left q (inl dead) = lefts.targets q ∙ ap (option_and_then (clear_on f)) (over.tight q dead) ∙ sym (over_by q None (starts_none q dead))
    over_left q (inr alive) = by (or_none (fault_at f.faults state.0))
      where
        state : (z : ℕ) × (target tops q ≡ Some z)
        state = value_of (target tops q) (over.wide q alive)

        start : (b : ℕ) × (target e.starts q ≡ Some b)
        start = value_of (target e.starts q) alive

        by : (fault_at f.faults state.0 ≡ None) ⊎ IsSome (fault_at f.faults state.0) → target left q ≡ (if is_some (target g.starts q) then target tops q else None)
        by (inl none) =
            let at = left_clear q state.0 state.1 none in
            at ∙ sym state.1 ∙ sym (over_by q (Some start.0) (starts_by q (Some state.0) at ∙ start.1))
        by (inr fault) =
            let at = left_none q state.0 state.1 fault in
            at ∙ sym (over_by q None (starts_by q None at))

pub carry_none_law : CarryNoneLaw
carry_none_law tokens tops states e f over each none = record {
  opened = refl;
  stay = λ q no. refl;
  gone = λ q some. gone q some (or_none (target e.starts q));
  dead = λ q alive. each.apart q alive ∙ sym (nothing q alive);
  kept = λ q dead. refl;
  rising = each.rising;
  once = each.once;
}
  where
    nothing : (q : ℕ) → IsSome (target e.starts q) → carried tokens states f q ≡ None
    nothing q alive = let state = value_of (target tops q) (over.wide q alive) in carried_none tokens states f q state.0 (sym (over.same q alive) ∙ state.1) (none q state.0 state.1)

    gone : (q : ℕ) → IsSome (carried tokens states f q) → (target e.starts q ≡ None) ⊎ IsSome (target e.starts q) → target e.starts q ≡ None
    gone q some (inl dead) = dead
    gone q some (inr alive) = absurd (no_some (nothing q alive) some)
