use Rattle.std.proofs.Common.{◌-◌, ◌≤◌, length}
use Rattle.scanning_theory.specs.declared.limits.TheConstants.{STATES}
use Rattle.token_patterns.specs.Searching.{IsSearchBefore}
use Rattle.token_patterns.proofs.building.search_states.Given as goal

abbrev pub invariant-loop-state : goal.invariant-loop-state
invariant-loop-state l = record {
  search : IsSearchBefore l.fn.patterns l.size l.search.sets.keys l.search.cells.items l.search.ends.items l.state;
  inside : l.state ≤ length l.search.sets.keys;
}

abbrev pub decreases-loop-state : goal.decreases-loop-state
decreases-loop-state l = STATES - l.state
