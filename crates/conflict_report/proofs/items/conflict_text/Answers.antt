use Rattle.std.proofs.Common.{◌≡◌, ◌++◌, List, ℕ, codes, decimal, ap, subst, ◌∙◌}
use Rattle.report_theory.specs.ItemTexts.{conflict_text, indented, item_text, token_text}
use Rattle.report_theory.proofs.LineLemmas.{seven_parts}
use Rattle.conflict_report.proofs.items.conflict_text.Goals as goal

pub returns : goal.returns
returns c =
    let p = c.in_ok-printer.printer in
    let conflict = c.args.conflict.now in
    let line : List ℕ = codes "sheet fault 16: conflict in state " ++ (decimal conflict.state ++ (codes " on " ++ (token_text p conflict.token ++ codes "\n"))) in
    subst (λ s. c.push_item_line-2.new.text.items ≡ conflict_text s conflict) c.in_ok-printer.ensures
    (seven_parts c.push_conflict_line.new.text.items c.push_item_line.new.text.items c.push_item_line-2.new.text.items
    (codes "sheet fault 16: conflict in state ") (decimal conflict.state) (codes " on ") (token_text p conflict.token) (codes "\n")
    (indented (item_text p conflict.first)) (indented (item_text p conflict.second))
    (c.in_ok-push_conflict_line.ensures ∙ ap (λ l. l ++ line) c.new-text.ensures.items) c.in_ok-push_item_line.ensures c.in_ok-push_item_line-2.ensures)
