use Rattle.std.proofs.Common.{Err, ap, ◌∙◌}
use Rattle.outline_checks.proofs.KindLemmas.{pattern_sound, pattern_unread, pattern_empty}
use Rattle.outline_checks.proofs.patterns.note_pattern.Goals as goal
use Rattle.outline_checks.proofs.patterns.note_pattern.Goals.{in-Ok, in-Err-Syntax, in-Err-MatchesEmpty, in-Err-NoMemory}

pub returns : goal.returns
returns c =
    let word = c.args.text.now in
    let text = c.as_slice.result.now in
    elim c.match-read.branch [
      | in-Ok w ↦ rw (w.result-is, w.first-is) (pattern_sound word text w.in-Ok.field-0 c.args.first.now.fault c.as_slice.ensures w.in-Ok.ensures.spelled.0 w.in-Ok.ensures.spelled.1)
      | in-Err-Syntax w ↦ rw (w.result-is, w.first-is) (pattern_unread word text c.as_slice.ensures (c.read.ensures.syntax (w.in-Err-Syntax.is ∙ ap Err w.in-Err-Syntax.field-0-is)) w.note_if.ensures)
      | in-Err-MatchesEmpty w ↦
          let found = c.read.ensures.empty (w.in-Err-MatchesEmpty.is ∙ ap Err w.in-Err-MatchesEmpty.field-0-is) in
          rw (w.result-is, w.first-is) (pattern_empty word text found.0 c.as_slice.ensures found.1 found.2 w.note_if-in-Err-MatchesEmpty.ensures)
      | in-Err-NoMemory w ↦ rw w.result-is tt
    ]
