use Rattle.std.proofs.Common.{length, arith}
use Rattle.std.proofs.lemmas.List.Sums.{sum_by-le}
use Rattle.grammar_data.specs.Grammar.{Rule}
use Rattle.lr_base.proofs.grammar.are_few_symbols.Goals as goal

pub count_symbols-requires : goal.count_symbols-requires
count_symbols-requires c =
    omega (arith, c.requires.few, sum_by-le (λ (rule : Rule). length rule.1) 20 c.args.rules.now c.requires.short)
