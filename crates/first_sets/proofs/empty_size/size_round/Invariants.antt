use Rattle.std.proofs.Common.{◌≡◌, take, length}
use Rattle.first_sets.specs.EmptySizes.{IsRound}
use Rattle.first_sets.proofs.empty_size.size_round.Given as goal

abbrev pub invariant-loop-rule : goal.invariant-loop-rule
invariant-loop-rule l = record {
  round : IsRound l.grammar (take l.rule-index l.numbers) l.total l.fn.sizes.items l.sizes.items;
  names : length l.sizes.items ≡ l.grammar.names;
}
