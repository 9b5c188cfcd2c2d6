use Rattle.std.proofs.Common.{◌≡◌, ◌<◌, drop}
use Rattle.map_theory.specs.Maps.{walk_by}
use Rattle.state_sets.proofs.making.walk_from.Given as goal

abbrev pub invariant-loop-symbol : goal.invariant-loop-symbol
invariant-loop-symbol l = record {
  within : l.top < l.t.states;
  walk : walk_by l.t l.fn.state l.symbols ≡ walk_by l.t l.top (drop l.symbol-index l.symbols);
}
