use Rattle.std.proofs.Common.{◌≡◌, ◌++◌, ap, ◌∙◌, arith}
use Rattle.std.specs.List.{flat_map, range_with_len}
use Rattle.report_theory.specs.TableTexts.{states_line, state_text, tables_text}
use Rattle.report_theory.proofs.LineLemmas.{next_line}
use Rattle.conflict_report.proofs.tables.tables_text.Goals as goal

pub loop-state-preserved : goal.loop-state-preserved
loop-state-preserved c =
    next_line (state_text c.args.sheet.now c.args.collection.now c.args.tables.now) (states_line c.args.tables.now) c.loop-state.text.items c.push_state.new.text.items c.loop-state.state c.loop-state.invariant
    (c.in_ok-push_state.ensures ∙ ap (λ s. c.loop-state.text.items ++ state_text s c.args.collection.now c.args.tables.now c.loop-state.state) c.in_ok-printer.ensures)

pub returns : goal.returns
unfolding tables_text
returns c =
    let last : c.loop-state.state ≡ c.args.tables.now.states = omega (arith, c.loop-state-test.false, c.states-state-end.ensures.states) in
    c.loop-state.invariant ∙ ap (λ n. states_line c.args.tables.now ++ flat_map (state_text c.args.sheet.now c.args.collection.now c.args.tables.now) (range_with_len 0 n)) last
