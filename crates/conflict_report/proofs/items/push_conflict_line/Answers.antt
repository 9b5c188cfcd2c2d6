use Rattle.std.proofs.Common.{◌≡◌, ◌++◌, decimal, codes, rules, ap, ◌∙◌}
use Rattle.report_theory.specs.ItemTexts.{token_text}
use Rattle.report_theory.proofs.LineLemmas.{five_parts}
use Rattle.conflict_report.proofs.items.push_conflict_line.Goals as goal

pub returns : goal.returns
returns c =
    let name : c.token_word.result.now ≡ token_text c.args.printer.now c.args.conflict.now.token = search rules in
    five_parts c.args.text.now.items c.extend_from_slice.new.self.items c.push_number.new.text.items c.extend_from_slice-2.new.self.items c.extend_from_slice-3.new.self.items c.extend_from_slice-4.new.self.items
    (codes "sheet fault 16: conflict in state ") (decimal c.args.conflict.now.state) (codes " on ") (token_text c.args.printer.now c.args.conflict.now.token) (codes "\n")
    (search rules) (search rules) (search rules) (c.in_ok-extend_from_slice-3.ensures.items ∙ ap (λ l. c.extend_from_slice-2.new.self.items ++ l) name) (search rules)
