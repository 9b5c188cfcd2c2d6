use Rattle.std.proofs.Common.{Err, ap, ◌∙◌}
use Rattle.sheet_reader.specs.RuleTexts.{IsPatternText}
use Rattle.sheet_reader.proofs.parts.pattern_of.Goals as goal

pub unreachable-requires : goal.unreachable-requires
unreachable-requires c =
    let text : IsPatternText c.as_slice.result.now = rw c.as_slice.ensures c.requires in
    text.spelled (c.read.ensures.syntax (c.in-Err-Syntax.is ∙ ap Err c.in-Err-Syntax.field-0-is))

pub unreachable-requires-in-Err-MatchesEmpty : goal.unreachable-requires-in-Err-MatchesEmpty
unreachable-requires-in-Err-MatchesEmpty c =
    let text : IsPatternText c.as_slice.result.now = rw c.as_slice.ensures c.requires in
    let found = c.read.ensures.empty (c.in-Err-MatchesEmpty.is ∙ ap Err c.in-Err-MatchesEmpty.field-0-is) in
    text.filled found.0 found.1 found.2
