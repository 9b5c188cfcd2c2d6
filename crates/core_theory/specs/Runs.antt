-- Runs: lists of events from a start, each made where it may come, and what they did together.
use Rattle.std.specs.Prelude.{◌≡◌, ℕ, ◌<◌, Bool, false, List, [], ◌∷◌, ◌++◌, Option, option_to_list}
use Rattle.core_theory.specs.Tree.{Range, boundary_of}
use Rattle.core_theory.specs.Core.{CoreState, word_of}
use Rattle.core_theory.specs.Events.{Claims, ArrivesFirst, ArrivesSecond, Finishes}

-- nothing has happened
pub record IsStart (leaves : ℕ) (s : CoreState) : Type 0 where
  pub count : s.leaves ≡ leaves
  pub counter : s.counter ≡ 0
  pub words : (boundary : ℕ) → 0 < boundary → boundary < leaves → word_of s boundary ≡ false
  pub carried : s.carried ≡ []
  pub waiting : s.waiting ≡ []
  pub done : s.done ≡ false

-- an event with what it answered: a claim with the leaf, if there was one; a first and a second arrival with the range that
-- came, its node, and whether it is the node's left part; the end
pub data Event : Type 0 where
  Claimed : Option ℕ → Event
  CameFirst : Range → Range → Bool → Event
  CameSecond : Range → Range → Bool → Event
  Finished : Event

-- the event leads from one state to another
abbrev pub IsStep : CoreState → Event → CoreState → Type 0
IsStep before (Claimed found) after = Claims before found after
IsStep before (CameFirst range node is_left) after = ArrivesFirst before range node is_left after
IsStep before (CameSecond range node is_left) after = ArrivesSecond before range node is_left after
IsStep before Finished after = Finishes before after

-- the events, one after another, lead from one state to another
pub data IsRun (from : CoreState) : List Event → CoreState → Type 0 where
  begin : IsRun from [] from
  step : {events : List Event} {before after : CoreState} (event : Event) → IsRun from events before → IsStep before event after → IsRun from (events ++ event ∷ []) after

-- the leaves that the events claimed, in order
abbrev pub claimed_by : Event → List ℕ
claimed_by (Claimed found) = option_to_list found
claimed_by (CameFirst range node is_left) = []
claimed_by (CameSecond range node is_left) = []
claimed_by Finished = []

abbrev pub leaves_claimed : List Event → List ℕ
leaves_claimed [] = []
leaves_claimed (event ∷ events) = claimed_by event ++ leaves_claimed events

-- the boundaries to which a range came second, in order
abbrev pub joined_by : Event → List ℕ
joined_by (Claimed found) = []
joined_by (CameFirst range node is_left) = []
joined_by (CameSecond range node is_left) = boundary_of node ∷ []
joined_by Finished = []

abbrev pub boundaries_joined : List Event → List ℕ
boundaries_joined [] = []
boundaries_joined (event ∷ events) = joined_by event ++ boundaries_joined events
