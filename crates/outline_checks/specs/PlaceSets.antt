-- Sets of places, and the lists that have the same places.
use Rattle.std.specs.Prelude.{◌≡◌, ℕ, Bool, true, List, ◌↔◌, Contains}
use Rattle.std.specs.Bool.{nat_eq}
use Rattle.std.specs.HashSet.{contains}
use Rattle.outline_checks.specs.declared.place_set.PlaceSet.{PlaceSet}

-- whether the place is in the set
abbrev pub has_place : PlaceSet → ℕ → Bool
has_place set place = contains nat_eq set.places place

-- the places of the set are those of the list
pub record IsSetOf (set : PlaceSet) (places : List ℕ) : Type 0 where
  pub same : (place : ℕ) → (has_place set place ≡ true) ↔ Contains places place
