-- Lists of calls.
use Rattle.std.specs.Prelude.{◌≡◌, ◌≢◌, ℕ, ◌≤◌, List, Some, Contains, length, slice_get}
use Rattle.std.specs.List.{AllZip}
use Rattle.core_theory.specs.Tree.{whole_range}
use Rattle.core_theory.specs.Core.{CoreState}
use Rattle.core_theory.specs.Runs.{Event, Claimed, CameFirst, CameSecond, Finished, IsStart, IsStep, IsRun}
use Rattle.join_core.specs.declared.call.Call.{Call}
use Rattle.join_core.specs.declared.call.Call.TheVariants.{Claim, Arrive, Finish}
use Rattle.join_core.specs.Nodes.{range_from}

-- the call may be made: for an arrival the range is carried and isn't that of all leaves; for the end, that of all leaves is
-- carried
abbrev pub IsMet : CoreState → Call → Type 0
IsMet s Claim = Unit {0}
IsMet s (Arrive first last) = Contains s.carried (range_from first last) × (range_from first last ≢ whole_range s.leaves)
IsMet s Finish = Contains s.carried (whole_range s.leaves)

-- the event is the call's, with some answer
abbrev pub IsEventOf : Call → Event → Type 0
IsEventOf Claim (Claimed found) = Unit {0}
IsEventOf Claim (CameFirst range node is_left) = ⊥
IsEventOf Claim (CameSecond range node is_left) = ⊥
IsEventOf Claim Finished = ⊥
IsEventOf (Arrive first last) (Claimed found) = ⊥
IsEventOf (Arrive first last) (CameFirst range node is_left) = range ≡ range_from first last
IsEventOf (Arrive first last) (CameSecond range node is_left) = range ≡ range_from first last
IsEventOf (Arrive first last) Finished = ⊥
IsEventOf Finish (Claimed found) = ⊥
IsEventOf Finish (CameFirst range node is_left) = ⊥
IsEventOf Finish (CameSecond range node is_left) = ⊥
IsEventOf Finish Finished = Unit {0}

-- the call leads from one state to another
abbrev pub IsMade : CoreState → Call → CoreState → Type 0
IsMade before call after = (event : Event) × IsEventOf call event × IsStep before event after

-- the calls, one after another, lead from one state to another
abbrev pub RunsCalls : CoreState → List Call → CoreState → Type 0
RunsCalls before calls after = (events : List Event) × AllZip IsEventOf calls events × IsRun before events after

-- the calls, one after another, lead from a start to a state
abbrev pub RunsFrom : ℕ → List Call → CoreState → Type 0
RunsFrom leaves calls after = (start : CoreState) × IsStart leaves start × RunsCalls start calls after

-- so many calls were made, and the next one, if there is one, may not be made
pub record StopsAt (s : CoreState) (calls : List Call) (made : ℕ) : Type 0 where
  pub within : made ≤ length calls
  pub next : (call : Call) → slice_get calls made ≡ Some call → IsMet s call → ⊥
