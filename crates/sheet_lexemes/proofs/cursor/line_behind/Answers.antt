use Rattle.std.proofs.Common.{◌+◌, sym, ap, ◌∙◌, arith}
use Rattle.lexeme_theory.proofs.LineLemmas.{line_feed_next, line_same_next, line_most}
use Rattle.sheet_lexemes.proofs.Steps.{not_equal}
use Rattle.sheet_lexemes.proofs.cursor.line_behind.Goals as goal

pub overflow_add-result : goal.overflow_add-result
overflow_add-result c = grind (arith, line_most)

pub returns-then-bytes-at-eq10 : goal.returns-then-bytes-at-eq10
returns-then-bytes-at-eq10 c =
    ap (λ n. n + 1) c.requires.line ∙ sym (line_feed_next c.args.bytes.now c.args.at (omega arith) c.if-bytes-at-eq10.true)

pub returns-else-bytes-at-eq10 : goal.returns-else-bytes-at-eq10
returns-else-bytes-at-eq10 c =
    c.requires.line ∙ sym (line_same_next c.args.bytes.now c.args.at (omega arith) (not_equal _ 10 c.if-bytes-at-eq10.false))
