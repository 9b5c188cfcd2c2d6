use Rattle.std.proofs.Common.{◌≡◌, length, arith}
use Rattle.sheet_data.specs.Sheet.{Sheet}
use Rattle.outline_theory.specs.Layout.{rule_lines}
use Rattle.sheet_reader.proofs.LayoutLemmas.{line_at, all_lines, count_lines}
use Rattle.sheet_reader.proofs.printer.Printer.push_rules.Goals as goal

lines : (sheet : Sheet) → length sheet.templates ≡ length sheet.grammar.rules → length sheet.declares ≡ length sheet.grammar.rules → length (rule_lines sheet sheet.grammar.rules sheet.templates sheet.declares) ≡ length sheet.grammar.rules
lines sheet templates declares = count_lines sheet sheet.grammar.rules sheet.templates sheet.declares templates declares

pub loop-number-preserved : goal.loop-number-preserved
loop-number-preserved c =
    line_at (rule_lines c.args.self.now.sheet.now c.args.self.now.sheet.now.grammar.rules c.args.self.now.sheet.now.templates c.args.self.now.sheet.now.declares) c.args.text.now.items c.push_rule_of.new.text.items c.loop-number.text.items c.loop-number.number (omega (arith, c.loop-number-test.true, c.rule_count-number-end.ensures.rules, lines c.args.self.now.sheet.now c.rule_count-number-end.ensures.templates c.rule_count-number-end.ensures.declares)) c.loop-number.invariant c.in_ok-push_rule_of.ensures

pub returns : goal.returns
returns c =
    all_lines (rule_lines c.args.self.now.sheet.now c.args.self.now.sheet.now.grammar.rules c.args.self.now.sheet.now.templates c.args.self.now.sheet.now.declares) c.args.text.now.items c.loop-number.text.items c.loop-number.number (omega (arith, c.loop-number-test.false, c.rule_count-number-end.ensures.rules, lines c.args.self.now.sheet.now c.rule_count-number-end.ensures.templates c.rule_count-number-end.ensures.declares)) c.loop-number.invariant
