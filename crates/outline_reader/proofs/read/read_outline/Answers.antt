use Rattle.std.proofs.Common.{◌≡◌, ◌≢◌, ℕ, sym, subst, arith}
use Rattle.outline_data.specs.declared.fault.SheetFault.{SheetFault}
use Rattle.outline_data.specs.Parts.{OutlineParts}
use Rattle.outline_theory.specs.Outlines.{IsOutlineOf}
use Rattle.stage_theory.specs.Stages.Stage.{ended}
use Rattle.stage_theory.specs.Drafts.{Draft, stage_of}
use Rattle.outline_reader.specs.Progress.{draft_of, IsFinished, IsUnfinished}
use Rattle.outline_reader.specs.Faults.{IsOutlineFault}
use Rattle.stage_theory.proofs.ReadLemmas.{IsReadSoFar, so_far_none}
use Rattle.outline_reader.proofs.ReadLemmas.{so_far_more, read_on, refused_fault, no_lexeme_fault, end_fault, end_outline, ended_outline, lexeme_is_read, end_is_read, untrue, true_so, ok_so, err_so, err_is}
use Rattle.outline_reader.proofs.read.read_outline.Goals as goal

pub loop-alloc-init : goal.loop-alloc-init
loop-alloc-init c = record {
  stands = c.first-place.ensures.stands c.args.bytes.now;
  read =
      let P : Draft → Type 0 = λ d. IsReadSoFar c.args.bytes.now c.first-place.result.at d in
      let Q : ℕ → Type 0 = λ n. IsReadSoFar c.args.bytes.now n _ in
      subst P (sym c.first-progress.ensures) (subst Q (sym c.first-place.ensures.at) (so_far_none c.args.bytes.now));
}

pub returns-in_err-lexeme-clause-fault : goal.returns-in_err-lexeme-clause-fault
returns-in_err-lexeme-clause-fault c =
    let Q : SheetFault → Type 0 = λ f. IsOutlineFault c.args.bytes.now f in
    let open_sheet : stage_of (draft_of c.loop-alloc.progress) ≢ ended = untrue c.is_ended.result c.loop-alloc-test.true c.is_ended.ensures in
    err_is Q c.from_residual.result c.in_err-lexeme.field-0.0 c.from_residual.ensures.1 (no_lexeme_fault c.args.bytes.now c.loop-alloc.place.at (draft_of c.loop-alloc.progress) c.loop-alloc.invariant.read open_sheet c.in_err-lexeme.field-0.0 c.in_err-lexeme.ensures.fault)

pub returns-in_err-progress-in-Lexeme-clause-fault : goal.returns-in_err-progress-in-Lexeme-clause-fault
returns-in_err-progress-in-Lexeme-clause-fault c =
    let Q : SheetFault → Type 0 = λ f. IsOutlineFault c.args.bytes.now f in
    let open_sheet : stage_of (draft_of c.loop-alloc.progress) ≢ ended = untrue c.is_ended.result c.loop-alloc-test.true c.is_ended.ensures in
    let read = lexeme_is_read c.args.bytes.now c.loop-alloc.place.at c.in_ok-lexeme.field-0 c.in-Lexeme.lexeme c.in-Lexeme.begins c.in-Lexeme.behind c.in_ok-lexeme.ensures.read c.in-Lexeme.is in
    err_is Q c.from_residual-in_err-progress-in-Lexeme.result c.in_err-progress-in-Lexeme.field-0.0 c.from_residual-in_err-progress-in-Lexeme.ensures.1 (refused_fault c.args.bytes.now c.loop-alloc.place.at (draft_of c.loop-alloc.progress) c.loop-alloc.invariant.read open_sheet c.in-Lexeme.lexeme c.in-Lexeme.begins c.in-Lexeme.behind c.line_of_place.result c.in_err-progress-in-Lexeme.field-0.0 read c.line_of_place.ensures c.in_err-progress-in-Lexeme.ensures.refused)

pub loop-alloc-smaller : goal.loop-alloc-smaller
loop-alloc-smaller c =
    let read = lexeme_is_read c.args.bytes.now c.loop-alloc.place.at c.in_ok-lexeme.field-0 c.in-Lexeme.lexeme c.in-Lexeme.begins c.in-Lexeme.behind c.in_ok-lexeme.ensures.read c.in-Lexeme.is in
    let on = read_on c.args.bytes.now c.loop-alloc.place.at c.in-Lexeme.lexeme c.in-Lexeme.begins c.in-Lexeme.behind read in
    let inside = read.end.inside in
    omega (arith, on, inside)

pub loop-alloc-preserved : goal.loop-alloc-preserved
loop-alloc-preserved c =
    let read = lexeme_is_read c.args.bytes.now c.loop-alloc.place.at c.in_ok-lexeme.field-0 c.in-Lexeme.lexeme c.in-Lexeme.begins c.in-Lexeme.behind c.in_ok-lexeme.ensures.read c.in-Lexeme.is in
    record {
      stands = read.end;
      read = so_far_more c.args.bytes.now c.loop-alloc.place.at (draft_of c.loop-alloc.progress) (draft_of c.in_ok-progress-in-Lexeme.progress) c.in-Lexeme.lexeme c.in-Lexeme.begins c.in-Lexeme.behind c.line_of_place.result c.loop-alloc.invariant.read read c.line_of_place.ensures c.in_ok-progress-in-Lexeme.ensures.next;
    }

pub returns-in-End-clause-outline : goal.returns-in-End-clause-outline
returns-in-End-clause-outline c =
    let P : OutlineParts → Type 0 = λ o. IsFinished (draft_of c.loop-alloc.progress) o in
    let Q : OutlineParts → Type 0 = λ o. IsOutlineOf c.args.bytes.now o in
    let read = end_is_read c.args.bytes.now c.loop-alloc.place.at c.in_ok-lexeme.field-0 c.in-End.end c.in_ok-lexeme.ensures.read c.in-End.is in
    ok_so P Q c.finished.result (λ o whole. end_outline c.args.bytes.now c.loop-alloc.place.at (draft_of c.loop-alloc.progress) o c.in-End.end c.loop-alloc.invariant.read whole read) c.finished.ensures.whole

pub returns-in-End-clause-fault : goal.returns-in-End-clause-fault
returns-in-End-clause-fault c =
    let P : SheetFault → Type 0 = λ f. IsUnfinished (draft_of c.loop-alloc.progress) c.line_of_place-in-End.result f in
    let Q : SheetFault → Type 0 = λ f. IsOutlineFault c.args.bytes.now f in
    let open_sheet : stage_of (draft_of c.loop-alloc.progress) ≢ ended = untrue c.is_ended.result c.loop-alloc-test.true c.is_ended.ensures in
    let read = end_is_read c.args.bytes.now c.loop-alloc.place.at c.in_ok-lexeme.field-0 c.in-End.end c.in_ok-lexeme.ensures.read c.in-End.is in
    err_so P Q c.finished.result (λ fault u. end_fault c.args.bytes.now c.loop-alloc.place.at (draft_of c.loop-alloc.progress) c.loop-alloc.invariant.read open_sheet c.in-End.end c.line_of_place-in-End.result fault read c.line_of_place-in-End.ensures u) c.finished.ensures.fault

pub returns-clause-outline : goal.returns-clause-outline
returns-clause-outline c =
    let P : OutlineParts → Type 0 = λ o. IsFinished (draft_of c.loop-alloc.progress) o in
    let Q : OutlineParts → Type 0 = λ o. IsOutlineOf c.args.bytes.now o in
    let is : stage_of (draft_of c.loop-alloc.progress) ≡ ended = true_so c.is_ended.result c.loop-alloc-test.false c.is_ended.ensures in
    ok_so P Q c.finished-2.result (λ o whole. ended_outline c.args.bytes.now c.loop-alloc.place.at (draft_of c.loop-alloc.progress) o c.loop-alloc.invariant.read whole is) c.finished-2.ensures.whole
