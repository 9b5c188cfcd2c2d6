use Rattle.std.proofs.Common.{drop, ◌↔◌}
use Rattle.grammar_theory.specs.EmptyNames.{AddsUp}
use Rattle.first_sets.specs.EmptySizes.{size_in}
use Rattle.first_sets.proofs.empty_size.adds_up.Given as goal

abbrev pub invariant-loop-symbol : goal.invariant-loop-symbol
invariant-loop-symbol l = AddsUp (size_in l.sizes) (drop l.symbol-index l.right) l.rest ↔ AddsUp (size_in l.sizes) l.right l.total
