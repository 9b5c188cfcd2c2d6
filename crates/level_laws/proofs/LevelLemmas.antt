-- Floors where starts err, and new floors.
use Rattle.std.proofs.Common.{◌≡◌, ◌≢◌, ℕ, ◌⊎◌, inl, inr, true, false, if◌then◌else◌, List, [], Option, Some, None, refl, sym, ap, ◌∙◌, subst, arith}
use Rattle.std.specs.Prelude.{IsSome, is_some, option_and_then, AllPairs}
use Rattle.grammar_data.specs.declared.token.Token.{Token as TextToken}
use Rattle.table_data.specs.declared.act.Act.{Act}
use Rattle.table_data.specs.declared.act.Act.TheVariants.{Shift, Reduce, Accept, Error}
use Rattle.table_data.specs.Tables.{Tables, act_in}
use Rattle.map_theory.specs.Maps.{StateMap, target, IsMapOf, walk_by}
use Rattle.map_theory.specs.Relations.{is_error}
use Rattle.piece_theory.specs.Pieces.{Fault, Floor, fault_at}
use Rattle.piece_theory.specs.Applies.{hidden_symbols}
use Rattle.piece_theory.specs.WellMade.{start_of, IsLevel, AreStacked, on_ground, on_floor}
use Rattle.level_laws.specs.Levels.{IsMoved, fault_of}
use Rattle.level_laws.specs.Laws.{MovedLevelLaw, MovedFloorsLaw, NewLevelLaw, ShiftingLaw, LeadingLaw, LookStartsLaw, LookMapLaw}

-- ---- something or nothing

pub or_none : {A : Type 0} (o : Option A) → (o ≡ None) ⊎ IsSome o
or_none None = inl refl
or_none (Some x) = inr refl

no_truth : false ≡ true → ⊥
no_truth e = cc

pub no_some : {A : Type 0} {o : Option A} → o ≡ None → IsSome o → ⊥
no_some e is = no_truth (sym (ap is_some e) ∙ is)

pub some_of : {A : Type 0} {o : Option A} {x : A} → o ≡ Some x → IsSome o
some_of e = ap is_some e

pub value_of : {A : Type 0} (o : Option A) → IsSome o → (x : A) × (o ≡ Some x)
value_of None is = absurd (no_truth is)
value_of (Some x) is = (x, refl)

-- ---- starts that err

pub level_moved : {dies : ℕ → Option Fault} {lead : ℕ → Option ℕ} {f g : Floor} → IsLevel lead f → IsMoved dies f g → IsLevel lead g
level_moved {dies} {lead} {f} {g} level moved = record {
  starts = λ q b e. starts q b e (or_none (dies q));
  faults = λ q is. faults q is (or_none (target f.starts q));
  covered = λ q is. covered q (or_none (dies q)) (or_none (target f.starts q)) (level.covered q is);
  apart = λ q is. apart q is (or_none (dies q));
  rising = moved.rising;
  once = moved.once;
}
  where
    starts : (q b : ℕ) → target g.starts q ≡ Some b → (dies q ≡ None) ⊎ IsSome (dies q) → lead q ≡ Some b
    starts q b e (inl none) = level.starts q b (sym (moved.stay q none) ∙ e)
    starts q b e (inr some) = absurd (no_some (moved.gone q some) (some_of e))

    leads : (q : ℕ) → IsSome (target f.starts q) → IsSome (lead q)
    leads q is = let start = value_of (target f.starts q) is in some_of (level.starts q start.0 start.1)

    faults : (q : ℕ) → IsSome (fault_at g.faults q) → (target f.starts q ≡ None) ⊎ IsSome (target f.starts q) → IsSome (lead q)
    faults q is (inl none) = level.faults q (sym (ap is_some (moved.kept q none)) ∙ is)
    faults q is (inr some) = leads q some

    covered : (q : ℕ) → (dies q ≡ None) ⊎ IsSome (dies q) → (target f.starts q ≡ None) ⊎ IsSome (target f.starts q) → IsSome (target f.starts q) ⊎ IsSome (fault_at f.faults q) → IsSome (target g.starts q) ⊎ IsSome (fault_at g.faults q)
    covered q (inl none) start (inl alive) = inl (ap is_some (moved.stay q none) ∙ alive)
    covered q (inr some) start (inl alive) = inr (ap is_some (moved.dead q alive) ∙ some)
    covered q either (inl none) (inr fault) = inr (ap is_some (moved.kept q none) ∙ fault)
    covered q either (inr alive) (inr fault) = absurd (no_some (level.apart q alive) fault)

    apart : (q : ℕ) → IsSome (target g.starts q) → (dies q ≡ None) ⊎ IsSome (dies q) → fault_at g.faults q ≡ None
    apart q is (inl none) = moved.dead q (sym (ap is_some (moved.stay q none)) ∙ is) ∙ none
    apart q is (inr some) = absurd (no_some (moved.gone q some) is)

pub moved_level_law : MovedLevelLaw
moved_level_law dies lead f g level moved = level_moved level moved

pub floors_moved : {t : Tables} {first : TextToken} {dies : ℕ → Option Fault} {lower : List Floor} {f : Floor} (g : Floor) → AreStacked t first lower f → IsMoved dies f g → AreStacked t first lower g
floors_moved g (on_ground unopened level) moved = on_ground (moved.opened ∙ unopened) (level_moved level moved)
floors_moved g (on_floor opened stacked parts is some less level) moved = on_floor opened stacked parts (moved.opened ∙ is) some less (level_moved level moved)

pub moved_floors_law : MovedFloorsLaw
moved_floors_law t first dies lower f g stacked moved = floors_moved g stacked moved

-- ---- new floors

no_fault : {faults : List Fault} → faults ≡ [] → (q : ℕ) → fault_at faults q ≡ None
no_fault none q = ap (λ l. fault_at l q) none

pub level_new : {lead : ℕ → Option ℕ} {f : Floor} → f.faults ≡ [] → IsMapOf lead f.starts → IsLevel lead f
level_new {lead} {f} none map = record {
  starts = λ q b e. sym (map.targets q) ∙ e;
  faults = λ q is. absurd (no_some (no_fault none q) is);
  covered = λ q is. inl (ap is_some (map.targets q) ∙ is);
  apart = λ q is. no_fault none q;
  rising = map.rising;
  once = subst (λ l. AllPairs {X = Fault} (λ x y. x.start ≢ y.start) l) (sym none) (λ i j d less past differ. absurd (omega (arith, past)));
}

pub new_level_law : NewLevelLaw
new_level_law lead f none map = level_new none map

-- a state, where there is one, by a test or by itself
by_test : (o : Option ℕ) (q : ℕ) → (if is_some o then Some q else None) ≡ option_and_then (λ p. Some q) o
by_test None q = refl
by_test (Some p) q = refl

by_tests : (m : StateMap) (o : Option ℕ) → option_and_then (λ p. if is_some (target m p) then Some p else None) o ≡ option_and_then (λ b. start_of m b) o
by_tests m None = refl
by_tests m (Some b) = by_test (target m b) b

pub shifting_law : ShiftingLaw
shifting_law t first after starts shifts same = record {
  rising = same.rising;
  targets = λ q. same.targets q ∙ by_test (target after q) q ∙ ap (option_and_then (λ p. Some q)) (shifts.targets q);
}

pub leading_law : LeadingLaw
leading_law t opened below starts back = record {
  rising = back.rising;
  targets = λ q. back.targets q ∙ by_tests below (walk_by t q (hidden_symbols t.rules (Some opened)));
}

-- ---- looks

alive_starts : (token : TextToken) (index q : ℕ) (act : (p : ℕ) → Act) (top start : Option ℕ) → (IsSome start → IsSome top) → (if is_some (option_and_then (λ p. if is_error (act p) then None else Some p) top) then start else None) ≡ (if is_some (option_and_then (λ p. fault_of token index q p (act p)) top) then None else start)
alive_starts token index q act None None wide = refl
alive_starts token index q act None (Some p) wide = absurd (no_some {A = ℕ} {o = None} refl (wide refl))
alive_starts token index q act (Some p) start wide = by_act (act p) start
  where
    by_act : (a : Act) (start : Option ℕ) → (if is_some (if is_error a then None else Some p) then start else None) ≡ (if is_some (fault_of token index q p a) then None else start)
    by_act (Shift r) start = refl
    by_act (Reduce r) start = refl
    by_act Accept start = refl
    by_act Error start = refl

pub look_starts_law : LookStartsLaw
look_starts_law t token index tops alive starts left lives wide kept = record {
  rising = kept.rising;
  targets = λ q. kept.targets q ∙ ap (λ (o : Option ℕ). if is_some o then target starts q else None) (lives.targets q) ∙ alive_starts token index q (λ p. act_in t p token.id) (target tops q) (target starts q) (wide q);
}

alive_map : (token : TextToken) (index q : ℕ) (act : (p : ℕ) → Act) (top start : Option ℕ) → (start ≡ None → top ≡ None) → option_and_then (λ p. if is_error (act p) then None else Some p) top ≡ (if is_some (if is_some (option_and_then (λ p. fault_of token index q p (act p)) top) then None else start) then top else None)
alive_map token index q act None None alone = refl
alive_map token index q act None (Some s) alone = refl
alive_map token index q act (Some p) None alone = absurd (no_some {A = ℕ} {o = Some p} (alone refl) refl)
alive_map token index q act (Some p) (Some s) alone = by_act (act p)
  where
    by_act : (a : Act) → (if is_error a then None else Some p) ≡ (if is_some (if is_some (fault_of token index q p a) then None else Some s) then Some p else None)
    by_act (Shift r) = refl
    by_act (Reduce r) = refl
    by_act Accept = refl
    by_act Error = refl

pub look_map_law : LookMapLaw
look_map_law t token index starts left h fresh alone kept kid lives = record {
  kid = kid;
  states = record {
    rising = lives.rising;
    targets = λ q. lives.targets q ∙ alive_map token index q (λ p. act_in t p token.id) (target h.states q) (target starts q) (alone q) ∙ ap (λ (o : Option ℕ). if is_some o then target h.states q else None) (sym (kept.targets q));
  };
}
