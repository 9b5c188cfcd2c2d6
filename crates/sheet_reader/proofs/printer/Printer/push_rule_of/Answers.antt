use Rattle.std.proofs.Common.{◌≡◌, ◌<◌, length, sym, ap, subst, ◌∙◌}
use Rattle.std.specs.Prelude.{slice_get, Some}
use Rattle.std.proofs.lemmas.Option.{slice_get-get_or}
use Rattle.grammar_data.specs.Grammar.{Grammar}
use Rattle.sheet_reader.proofs.LayoutLemmas.{rule_pushed}
use Rattle.sheet_reader.proofs.printer.Printer.push_rule_of.Goals as goal

rule : (c : goal.After-push_rule) → slice_get c.args.self.now.sheet.now.grammar.rules c.args.number ≡ Some c.index-rules-number.result
rule c =
    let rules = c.rules.ensures.rules ∙ ap (λ (g : Grammar). g.rules) c.grammar.ensures in
    ap (λ l. slice_get l c.args.number) (sym rules) ∙ slice_get-get_or c.rules.result.now c.args.number c.index-rules-number.result (subst (λ l. c.args.number < length l) (sym rules) c.requires) ∙ ap Some (sym c.index-rules-number.is)

pub returns : goal.returns
returns c =
    rule_pushed c.push_rule.result c.args.self.now.sheet.now c.args.text.now.items c.push_rule.new.text.items c.args.number c.index-rules-number.result c.template-template.result.now c.declares-declares.result.now (rule c) c.template-template.ensures c.declares-declares.ensures c.push_rule.ensures
