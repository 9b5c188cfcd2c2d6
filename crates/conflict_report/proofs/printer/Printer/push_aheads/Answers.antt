use Rattle.std.proofs.Common.{sym, ap, ◌∙◌, ◌++◌}
use Rattle.grammar_data.specs.TokenSet.{has_token}
use Rattle.report_theory.specs.ItemTexts.{behind_space, token_text}
use Rattle.report_theory.proofs.LineLemmas.{next_word, same_words}
use Rattle.conflict_report.proofs.printer.Printer.push_aheads.Goals as goal
use Rattle.conflict_report.proofs.printer.Printer.push_aheads.Goals.{then-has+in_ok-push_word, else-has}

pub loop-token-preserved : goal.loop-token-preserved
loop-token-preserved c =
    let has = has_token c.args.aheads.now in
    elim c.if-has.branch [
      | then-has+in_ok-push_word w ↦ next_word behind_space (token_text c.args.self.now) has c.args.text.now.items c.loop-token.text.items c.loop-token.token c.if-has.text.items (sym c.has.ensures.has ∙ w.if-has.true) c.loop-token.invariant
          (ap (λ t. t.items) w.text-is ∙ w.in_ok-push_word.ensures ∙ ap (λ n. c.loop-token.text.items ++ behind_space n) w.token_word.ensures)
      | else-has w ↦ ap (λ t. t.items) w.text-is ∙ same_words behind_space (token_text c.args.self.now) has c.args.text.now.items c.loop-token.text.items c.loop-token.token (sym c.has.ensures.has ∙ w.if-has.false) c.loop-token.invariant
    ]
