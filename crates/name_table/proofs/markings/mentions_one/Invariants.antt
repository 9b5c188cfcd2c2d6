use Rattle.std.proofs.Common.{◌≡◌, take, false}
use Rattle.grammar_theory.specs.Rules.{AllNames}
use Rattle.name_table.specs.Markings.{is_marking}
use Rattle.name_table.proofs.markings.mentions_one.Given as goal

abbrev pub invariant-loop-symbol : goal.invariant-loop-symbol
invariant-loop-symbol l = AllNames (λ n. is_marking l.marking n ≡ false) (take l.symbol-index l.right)
