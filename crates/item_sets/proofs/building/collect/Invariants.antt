use Rattle.std.proofs.Common.{◌≡◌, ◌-◌, ◌≤◌, length}
use Rattle.item_sets.specs.Searching.{IsSearchBefore}
use Rattle.item_sets.proofs.building.collect.Given as goal

abbrev pub invariant-loop-state : goal.invariant-loop-state
invariant-loop-state l = record {
  grammar : l.states.grammar ≡ l.fn.grammar;
  within : l.state ≤ length l.states.states;
  search : IsSearchBefore l.fn.grammar l.states.states l.steps.items l.state;
}

abbrev pub decreases-loop-state : goal.decreases-loop-state
decreases-loop-state l = 10000 - l.state
