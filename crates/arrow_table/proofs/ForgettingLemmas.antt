-- Maps that stay where others are forgotten, one number after the other.
use Rattle.std.proofs.Common.{◌≡◌, ◌≢◌, ℕ, ◌+◌, ◌<◌, ◌≤◌, ◌⊎◌, inl, inr, List, ◌++◌, length, get_or, set, sym, subst, ap, ◌∙◌, arith, length-append}
use Rattle.std.specs.Prelude.{All}
use Rattle.std.proofs.lemmas.Bool.{cases_eq}
use Rattle.std.proofs.lemmas.Grind.{get_or-set_at}
use Rattle.std.proofs.lemmas.List.{append_assoc, get_or-append-add, get_or-set_other}
use Rattle.map_theory.specs.Maps.{StateMap}
use Rattle.arrow_table.specs.Looks.{Grows, HasMap, map_at}
use Rattle.arrow_table.proofs.GrownLemmas.{has_grown}

-- what holds of all holds of the last ones
pub all_last : {X : Type 0} (P : X → Type 0) (xs ys : List X) → All P (xs ++ ys) → All P ys
all_last P xs ys all k d inside = subst P (get_or-append-add xs ys k d) (all (length xs + k) d (omega (arith, inside, length-append xs ys)))

pub grows_then : (one two three : List StateMap) → Grows one two → Grows two three → Grows one three
grows_then one two three first second = (first.0 ++ second.0, second.1 ∙ ap (λ l. l ++ second.0) first.1 ∙ append_assoc one first.0 second.0)

-- a number that isn't below the base, and has the map that another had
pub record IsKept (old new : List StateMap) (base id again : ℕ) : Type 0 where
  pub stands : base ≤ again
  pub same : HasMap new again (λ map. map ≡ map_at old id)

-- one more number is written
pub kept_next : (old before new : List StateMap) (base place again : ℕ) (ids keep : List ℕ) → Grows before new → place < length keep → IsKept old new base (get_or ids place 0) again
    → ((i : ℕ) → i < place → IsKept old before base (get_or ids i 0) (get_or keep i 0)) → (i : ℕ) → i < place + 1 → IsKept old new base (get_or ids i 0) (get_or (set keep place again) i 0)
kept_next old before new base place again ids keep grows inside here kept i under = cases (cases_eq i place)
  where
    cases : (i ≡ place) ⊎ (i ≢ place) → IsKept old new base (get_or ids i 0) (get_or (set keep place again) i 0)
    cases (inl same) =
        let at : get_or (set keep place again) i 0 ≡ again = get_or-set_at keep place i again 0 same inside in
        subst (λ n. IsKept old new base (get_or ids i 0) n) (sym at) (subst (λ n. IsKept old new base (get_or ids n 0) again) (sym same) here)
    cases (inr differs) =
        let was : IsKept old before base (get_or ids i 0) (get_or keep i 0) = kept i (omega (arith, under, differs)) in
        subst (λ n. IsKept old new base (get_or ids i 0) n) (sym (get_or-set_other keep place i again 0 differs)) (record {
          stands = was.stands;
          same = has_grown before new (get_or keep i 0) (λ map. map ≡ map_at old (get_or ids i 0)) grows was.same;
        })
