use Rattle.std.proofs.Common.{◌≡◌, slice_get}
use Rattle.item_sets.specs.Searching.{IsSearchAt}
use Rattle.item_sets.proofs.building.expand.Given as goal

abbrev pub invariant-loop-kernel : goal.invariant-loop-kernel
invariant-loop-kernel l = record {
  grammar : l.states.grammar ≡ l.fn.states.grammar;
  here : slice_get l.states.states l.fn.state ≡ slice_get l.fn.states.states l.fn.state;
  search : IsSearchAt l.fn.states.grammar l.states.states l.steps.items l.fn.state l.kernel-index;
}
