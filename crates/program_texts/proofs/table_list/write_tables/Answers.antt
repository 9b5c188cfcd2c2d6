use Rattle.std.proofs.Common.{◌≡◌, refl, sym, [], append-nil, rules, arith}
use Rattle.report_theory.specs.TableTexts.{state_text, states_line, tables_text}
use Rattle.writing_theory.specs.Writing.{IsWritten, all_taken, part_taken, cut, nothing_taken}
use Rattle.writing_theory.specs.declared.fault.WriteFault.TheVariants.{Failed, NoMemory}
use Rattle.writing_theory.proofs.BlockLemmas.{takes_nothing, passes_more, fails_behind, all_passed, cut_behind, err_at}
use Rattle.program_texts.proofs.TableListLemmas.{so_far, one_state, around_state}
use Rattle.program_texts.proofs.table_list.write_tables.Goals as goal

pub returns-in_err-printer-clause-written : goal.returns-in_err-printer-clause-written
returns-in_err-printer-clause-written g c =
    err_at (IsWritten _ _ _) c.from_residual.result NoMemory c.from_residual.ensures.1 (cut (nothing_taken (takes_nothing _)))

pub returns-in_err-push_states_line-clause-written : goal.returns-in_err-push_states_line-clause-written
returns-in_err-push_states_line-clause-written g c =
    err_at (IsWritten _ _ _) c.from_residual-in_err-push_states_line.result NoMemory c.from_residual-in_err-push_states_line.ensures.1 (cut (nothing_taken (takes_nothing _)))

pub returns-in_err-push_state-clause-written : goal.returns-in_err-push_state-clause-written
unfolding tables_text
returns-in_err-push_state-clause-written g c =
    let text = state_text c.args.sheet.now c.args.collection.now c.args.tables.now in
    err_at (IsWritten _ _ _) c.from_residual-in_err-push_state.result NoMemory c.from_residual-in_err-push_state.ensures.1
    (cut_behind _ _ _ _ _ _ _ refl c.loop-state.invariant.passed (around_state text (states_line c.args.tables.now) c.loop-state.state c.args.tables.now.states (omega arith)))

pub returns-in_err-pass-clause-written : goal.returns-in_err-pass-clause-written
unfolding tables_text
returns-in_err-pass-clause-written g c =
    let text = state_text c.args.sheet.now c.args.collection.now c.args.tables.now in
    err_at (IsWritten _ _ _) c.from_residual-in_err-pass.result Failed c.from_residual-in_err-pass.ensures.1
    (part_taken refl (fails_behind _ _ _ _ _ _ _ _ _ c.loop-state.invariant.passed (rw c.in_ok-printer.ensures at c.in_ok-push_state.ensures) c.in_err-pass.ensures.failed
    (around_state text (states_line c.args.tables.now) c.loop-state.state c.args.tables.now.states (omega arith))))

pub loop-state-preserved : goal.loop-state-preserved
loop-state-preserved g c =
    let text = state_text c.args.sheet.now c.args.collection.now c.args.tables.now in
    record {
      passed = passes_more _ _ _ _ _ _ _ _ _ c.loop-state.invariant.passed (rw c.in_ok-printer.ensures at c.in_ok-push_state.ensures) c.in_ok-pass.ensures.passed (one_state text (states_line c.args.tables.now) c.loop-state.state);
      same = search rules;
    }

pub returns-in_err-finish-clause-written : goal.returns-in_err-finish-clause-written
unfolding tables_text
returns-in_err-finish-clause-written g c =
    let last : c.loop-state.state ≡ c.args.tables.now.states = omega arith in
    let all = so_far (state_text c.args.sheet.now c.args.collection.now c.args.tables.now) (states_line c.args.tables.now) c.args.tables.now.states in
    err_at (IsWritten _ _ _) c.from_residual-in_err-finish.result Failed c.from_residual-in_err-finish.ensures.1
    (part_taken refl (fails_behind _ _ _ _ _ _ [] [] all (rw last at c.loop-state.invariant.passed) (sym (append-nil _)) c.in_err-finish.ensures.failed (sym (append-nil all))))

pub returns-clause-written : goal.returns-clause-written
unfolding tables_text
returns-clause-written g c =
    let last : c.loop-state.state ≡ c.args.tables.now.states = omega arith in
    let all = so_far (state_text c.args.sheet.now c.args.collection.now c.args.tables.now) (states_line c.args.tables.now) c.args.tables.now.states in
    all_taken refl (all_passed _ _ _ _ _ _ [] all (rw last at c.loop-state.invariant.passed) (sym (append-nil _)) c.in_ok-finish.ensures.whole (sym (append-nil all)))
