use Rattle.std.proofs.Common.{sym, ◌∙◌}
use Rattle.std.proofs.lemmas.Bool.{not-false}
use Rattle.token_patterns.proofs.WalkLemmas.{walk_stop, at_text_end, at_dead_end}
use Rattle.token_patterns.proofs.scanner.Scanner.walk_to_mark.Goals as goal
use Rattle.token_patterns.proofs.scanner.Scanner.walk_to_mark.Goals.{then-next-text, else-next-text}

pub returns-clause-walk : goal.returns-clause-walk
returns-clause-walk c =
    let table = c.args.self.now in
    let text = c.args.text.now in
    let from = c.args.from in
    let next = c.walk-next.result in
    let is = c.walk-next.ensures.walk in
    walk_stop table text from next is
    (elim c.if-next-text.branch [
      | then-next-text w ↦ at_dead_end table text from next is c.if-next.false (c.requires.dead next.at next.state (w.keeps.ensures.0 (not-false w.keeps.result (sym w.value-is ∙ c.if-not-keeps.false))))
      | else-next-text w ↦ at_text_end table text from next is w.if-next-text.false
    ])
