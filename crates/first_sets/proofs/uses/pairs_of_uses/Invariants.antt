use Rattle.std.proofs.Common.{take, length, ◌≤◌}
use Rattle.lr_base.specs.IsGrammar.{symbols_of}
use Rattle.first_sets.specs.KnownNames.{AreUses}
use Rattle.first_sets.proofs.uses.pairs_of_uses.Given as goal

abbrev pub invariant-loop-number : goal.invariant-loop-number
invariant-loop-number l = record {
  uses : AreUses (take l.number l.grammar.rules) l.pairs.items;
  few : length l.pairs.items ≤ symbols_of (take l.number l.grammar.rules);
}
