-- The map that starts, the number of each one's class, and the target of each class are.
use Rattle.std.specs.Prelude.{◌≡◌, ℕ, ◌<◌, ◌≤◌, List, [], ◌∷◌, length, slice_index, All}
use Rattle.map_theory.specs.Maps.{StateMap, IsRising}
use Rattle.table_data.specs.declared.limits.TheConstants.{MOST_STATES}
use Rattle.state_sets.specs.Classes.{targets_of}

abbrev pub pairs_of : List ℕ → List ℕ → List ℕ → StateMap
pairs_of [] classes targets = []
pairs_of (q ∷ starts) [] targets = []
pairs_of (q ∷ starts) (k ∷ classes) targets = (q, slice_index targets k) ∷ pairs_of starts classes targets

-- each start has a class, and the classes are those of the map
pub record AreClassed (starts classes targets : List ℕ) : Type 0 where
  pub lengths : length classes ≡ length starts
  pub numbers : All (λ k. k < length targets) classes
  pub different : targets ≡ targets_of (pairs_of starts classes targets)

-- and the map is one with rising starts, of which there are no more than tables have states
pub record IsArrow (starts classes targets : List ℕ) : Type 0 where
  pub classed : AreClassed starts classes targets
  pub rising : IsRising (pairs_of starts classes targets)
  pub few : length starts ≤ MOST_STATES
