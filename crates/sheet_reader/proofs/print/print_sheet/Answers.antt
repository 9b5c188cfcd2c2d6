use Rattle.std.proofs.Common.{◌++◌, map, ap, ◌∙◌}
use Rattle.std.specs.Prelude.{codes}
use Rattle.std.specs.List.{flat_map}
use Rattle.grammar_data.specs.declared.rule.Sym.TheVariants.{Name}
use Rattle.sheet_data.specs.Sheet.{Sheet}
use Rattle.outline_theory.specs.Layout.{line_text, symbol_text, rule_lines, decl_words}
use Rattle.sheet_reader.specs.Printing.{spaced, ended}
use Rattle.sheet_reader.proofs.LayoutLemmas.{layout_made}
use Rattle.sheet_reader.proofs.print.print_sheet.Goals as goal

pub returns : goal.returns
returns c =
    let text = c.push_decls.new.text.items in
    let decls = c.in_ok-push_decls.ensures ∙ ap (λ l. l ++ flat_map line_text (map decl_words c.decls.result.now)) c.new-text.ensures.items ∙ ap (λ ds. flat_map line_text (map decl_words ds)) c.decls.ensures in
    let start = c.in_ok-push_start.ensures ∙ ap (λ (s : Sheet). (text ++ spaced (codes "%start")) ++ ended (symbol_text s (Name s.grammar.start))) c.new-printer.ensures in
    let rules = c.in_ok-push_rules.ensures ∙ ap (λ (s : Sheet). c.push_last.new.text.items ++ flat_map line_text (rule_lines s s.grammar.rules s.templates s.declares)) c.new-printer.ensures in
    layout_made c.args.sheet.now text c.push_start.new.text.items c.push_last.new.text.items c.push_rules.new.text.items decls start c.in_ok-push_last.ensures rules
