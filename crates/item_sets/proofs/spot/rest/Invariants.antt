use Rattle.std.proofs.Common.{drop}
use Rattle.grammar_data.specs.TokenSet.{IsTokenSet}
use Rattle.item_sets.proofs.SpotLemmas.{IsWalkedTo}
use Rattle.item_sets.proofs.spot.rest.Given as goal

abbrev pub invariant-loop-symbol : goal.invariant-loop-symbol
invariant-loop-symbol l = record {
  walked : IsWalkedTo l.fn.firsts l.symbols (drop l.symbol-index l.symbols) l.first;
  set : IsTokenSet l.first;
}
