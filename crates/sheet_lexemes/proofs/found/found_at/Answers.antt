use Rattle.std.proofs.Common.{sym, ◌∙◌}
use Rattle.lexeme_theory.proofs.BeginLemmas.{line_comment-inside, block_comment-inside}
use Rattle.sheet_lexemes.proofs.found.found_at.Goals as goal

pub line_comment_at-requires : goal.line_comment_at-requires
line_comment_at-requires c = line_comment-inside c.args.bytes.now c.args.at (sym c.begin_at.ensures ∙ c.in-LineComment.is)

pub block_comment_at-requires : goal.block_comment_at-requires
block_comment_at-requires c = block_comment-inside c.args.bytes.now c.args.at (sym c.begin_at.ensures ∙ c.in-BlockComment.is)
