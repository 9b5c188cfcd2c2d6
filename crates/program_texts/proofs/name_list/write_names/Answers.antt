use Rattle.std.proofs.Common.{refl, sym, ap, ◌∙◌, [], append-nil, rules, arith, ◌-◌}
use Rattle.std.proofs.lemmas.List.{take_all}
use Rattle.translation_theory.specs.DeclaredNames.{rows_text}
use Rattle.writing_theory.specs.Writing.{IsWritten, all_taken, part_taken}
use Rattle.writing_theory.specs.declared.fault.WriteFault.TheVariants.{Failed, NoMemory}
use Rattle.writing_theory.proofs.BlockLemmas.{passes_more, fails_behind, all_passed, cut_behind, err_at}
use Rattle.program_texts.proofs.NameListLemmas.{around_row, one_row, row_at}
use Rattle.program_texts.proofs.name_list.write_names.Goals as goal

pub returns-in_err-push_row-clause-written : goal.returns-in_err-push_row-clause-written
returns-in_err-push_row-clause-written g c =
    let there = row_at c.args.names.now c.loop-index.index _ c.row-row.ensures in
    err_at (IsWritten _ _ _) c.from_residual.result NoMemory c.from_residual.ensures.1
    (cut_behind _ _ _ _ _ _ _ refl c.loop-index.invariant.passed (around_row c.args.names.now c.loop-index.index _ there (omega arith)))

pub returns-in_err-pass-clause-written : goal.returns-in_err-pass-clause-written
returns-in_err-pass-clause-written g c =
    let there = row_at c.args.names.now c.loop-index.index _ c.row-row.ensures in
    err_at (IsWritten _ _ _) c.from_residual-in_err-pass.result Failed c.from_residual-in_err-pass.ensures.1
    (part_taken refl (fails_behind _ _ _ _ _ _ _ _ _ c.loop-index.invariant.passed c.in_ok-push_row.ensures c.in_err-pass.ensures.failed
    (around_row c.args.names.now c.loop-index.index _ there (omega arith))))

pub loop-index-preserved : goal.loop-index-preserved
loop-index-preserved g c =
    let there = row_at c.args.names.now c.loop-index.index _ c.row-row.ensures in
    record {
      passed = passes_more _ _ _ _ _ _ _ _ _ c.loop-index.invariant.passed c.in_ok-push_row.ensures c.in_ok-pass.ensures.passed (one_row c.args.names.now c.loop-index.index _ there (omega arith));
      same = search rules;
    }

pub returns-in_err-finish-clause-written : goal.returns-in_err-finish-clause-written
returns-in_err-finish-clause-written g c =
    let all = sym (ap (rows_text 1) (take_all c.loop-index.index c.args.names.now (omega arith))) ∙ sym (append-nil _) in
    err_at (IsWritten _ _ _) c.from_residual-in_err-finish.result Failed c.from_residual-in_err-finish.ensures.1
    (part_taken refl (fails_behind _ _ _ _ _ _ [] [] _ c.loop-index.invariant.passed (sym (append-nil _)) c.in_err-finish.ensures.failed all))

pub returns-clause-written : goal.returns-clause-written
returns-clause-written g c =
    let all = sym (ap (rows_text 1) (take_all c.loop-index.index c.args.names.now (omega arith))) ∙ sym (append-nil _) in
    all_taken refl (all_passed _ _ _ _ _ _ [] _ c.loop-index.invariant.passed (sym (append-nil _)) c.in_ok-finish.ensures.whole all)
