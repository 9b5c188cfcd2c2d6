-- How the ranges that are carried or wait are kept: under their first leaves.
use Rattle.std.specs.Prelude.{◌≡◌, ℕ, ◌+◌, ◌<◌, ◌≤◌, Bool, List, [], ◌∷◌, ◌++◌, length, map, Option, Some, None, option_to_list}
use Rattle.core_theory.specs.Tree.{Range}
use Rattle.core_theory.specs.Core.{CoreState, IsCovered}
use Rattle.join_core.specs.declared.held.Held.{Held}
use Rattle.join_core.specs.declared.held.Held.TheVariants.{NoRange, Carried, Waiting}
use Rattle.join_core.specs.declared.limits.TheConstants.{LEAVES}
use Rattle.join_core.specs.Nodes.{range_from}

-- where the range that is carried, or waits, from a leaf on ends
abbrev pub carried_end : Held → Option ℕ
carried_end NoRange = None
carried_end (Carried last) = Some last
carried_end (Waiting last) = None

abbrev pub waiting_end : Held → Option ℕ
waiting_end NoRange = None
waiting_end (Carried last) = None
waiting_end (Waiting last) = Some last

-- the range from a leaf on, if there is one
abbrev pub range_at : ℕ → Option ℕ → List Range
range_at first last = map (range_from first) (option_to_list last)

-- the ranges of a list of leaves, the first of which is the given one
abbrev pub ranges_of : (Held → Option ℕ) → ℕ → List Held → List Range
ranges_of end first [] = []
ranges_of end first (held ∷ rest) = range_at first (end held) ++ ranges_of end (first + 1) rest

-- the state that is kept so
abbrev pub kept_state : ℕ → ℕ → List Bool → List Held → Bool → CoreState
kept_state leaves counter words held done = record {
  leaves = leaves;
  counter = counter;
  words = words;
  carried = ranges_of carried_end 0 held;
  waiting = ranges_of waiting_end 0 held;
  done = done;
}

-- what is kept: a word and a place for each leaf, of a covered state
pub record IsKept (leaves counter : ℕ) (words : List Bool) (held : List Held) (done : Bool) : Type 0 where
  pub some : 0 < leaves
  pub few : leaves ≤ LEAVES
  pub words_count : length words ≡ leaves
  pub held_count : length held ≡ leaves
  pub covered : IsCovered (kept_state leaves counter words held done)
