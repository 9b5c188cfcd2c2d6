use Rattle.std.proofs.Common.{◌+◌, get_or, ap, ◌∙◌}
use Rattle.lexeme_theory.specs.Begins.{begin_by, begin_at}
use Rattle.sheet_lexemes.proofs.Looked.{copied_get}
use Rattle.sheet_lexemes.proofs.begin.begin_at.Goals as goal

pub returns : goal.returns
unfolding begin_at
returns c =
    let found = copied_get c.args.bytes.now (c.args.at + 1) c.get.result c.get.ensures.lookup.0 c.get.ensures.lookup.1 in
    c.by_bytes.ensures ∙ ap (begin_by (get_or c.args.bytes.now c.args.at 0)) (c.copied.ensures ∙ found)
