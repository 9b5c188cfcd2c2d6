use Rattle.std.proofs.Common.{◌≡◌, suc, length}
use Rattle.grammar_theory.specs.EmptyNames.{IsSizedBelow}
use Rattle.first_sets.specs.EmptySizes.{size_in}
use Rattle.first_sets.proofs.empty_size.empty_sizes.Given as goal

abbrev pub invariant-loop-total : goal.invariant-loop-total
invariant-loop-total l = record {
  sized : IsSizedBelow l.grammar (suc l.total) (size_in l.sizes.items);
  names : length l.sizes.items ≡ l.grammar.names;
}
