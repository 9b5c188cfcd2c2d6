use Rattle.std.proofs.Common.{arith}
use Rattle.lr_base.proofs.GrammarLemmas.{all_marked}
use Rattle.lr_base.proofs.grammar.has_rule_for_each.Goals as goal

pub returns : goal.returns
returns c =
    let marks = c.left_sides-marked in
    let each = all_marked c.args.rules.now marks.result c.args.names (omega (arith, marks.ensures.len, c.requires.within)) marks.ensures.only marks.ensures.all in
    (λ yes. each.0 (c.are_true.ensures.0 yes), λ has. c.are_true.ensures.1 (each.1 has))
