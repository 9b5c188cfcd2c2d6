use Rattle.std.proofs.Common.{◌≡◌, Result, Ok, Err, IfErr, ap, inr, sym, subst, ◌∙◌}
use Rattle.std.specs.Result.{IsErrAnd}
use Rattle.outline_data.specs.Parts.{OutlineParts}
use Rattle.outline_theory.specs.Reading.{IsFirstFault}
use Rattle.sheet_reader.specs.Faults.{IsReadFault}
use Rattle.sheet_reader.proofs.ReadLemmas.{has_outline, refused_reading, refused_outline, refused_limit, few_positions, pattern_texts, are_kept, read_within}
use Rattle.sheet_reader.proofs.read.read_sheet.Goals as goal

pub returns-then-bytes-gt-SHEET_BYTES-clause-fault : goal.returns-then-bytes-gt-SHEET_BYTES-clause-fault
returns-then-bytes-gt-SHEET_BYTES-clause-fault c = inr (IsFirstFault.too_long c.if-bytes-gt-SHEET_BYTES.true)

-- the error that a `?` hands on
err_is : {A E : Type 0} (Q : E → Type 0) (r : Result A E) (e : E) → IsErrAnd r (λ x. x ≡ e) → Q e → IfErr r Q
err_is Q (Ok a) e same h = tt
err_is Q (Err x) e same h = subst Q (sym same) h

pub returns-in_err-outline-clause-fault : goal.returns-in_err-outline-clause-fault
returns-in_err-outline-clause-fault c =
    let fault = c.in_err-outline.field-0.0 in
    err_is (IsReadFault c.args.bytes.now) c.from_residual.result fault c.from_residual.ensures.1 (refused_reading c.args.bytes.now fault c.if-bytes-gt-SHEET_BYTES.false c.in_err-outline.ensures.fault)

pub returns-in_err-check_outline-clause-fault : goal.returns-in_err-check_outline-clause-fault
returns-in_err-check_outline-clause-fault c =
    let fault = c.in_err-check_outline.field-0.0 in
    let outline = c.in_ok-outline.outline in
    err_is (IsReadFault c.args.bytes.now) c.from_residual-in_err-check_outline.result fault c.from_residual-in_err-check_outline.ensures.1
    (refused_outline c.args.bytes.now outline fault (has_outline c.args.bytes.now outline c.if-bytes-gt-SHEET_BYTES.false c.in_ok-outline.ensures.outline) c.in_err-check_outline.ensures)

pub decls_of-requires : goal.decls_of-requires
decls_of-requires c =
    pattern_texts c.in_ok-outline.outline c.deref.result.now c.in_ok-check_outline.ensures (c.deref.ensures.value ∙ ap (λ (o : OutlineParts). o.declarations) c.outline.view_is)

pub number_outline-requires-clause-small : goal.number_outline-requires-clause-small
number_outline-requires-clause-small c =
    let declarations = c.deref.ensures.value ∙ ap (λ (o : OutlineParts). o.declarations) c.outline.view_is in
    few_positions c.args.bytes.now c.in_ok-outline.outline c.deref-2.result.now c.if-bytes-gt-SHEET_BYTES.false c.in_ok-outline.ensures.outline (are_kept c.in_ok-outline.outline c.deref.result.now c.in_ok-decls.decls.items c.deref-2.result.now declarations c.deref-2.ensures.value c.in_ok-decls.ensures)

pub returns-in_err-numbered-clause-fault : goal.returns-in_err-numbered-clause-fault
returns-in_err-numbered-clause-fault c =
    let declarations = c.deref.ensures.value ∙ ap (λ (o : OutlineParts). o.declarations) c.outline.view_is in
    err_is (IsReadFault c.args.bytes.now) c.from_residual-in_err-numbered.result c.in_err-numbered.field-0.0 c.from_residual-in_err-numbered.ensures.1
    (refused_limit c.args.bytes.now c.in_ok-outline.outline c.deref-2.result.now c.in_err-numbered.field-0.0 (has_outline c.args.bytes.now c.in_ok-outline.outline c.if-bytes-gt-SHEET_BYTES.false c.in_ok-outline.ensures.outline) c.in_ok-check_outline.ensures (are_kept c.in_ok-outline.outline c.deref.result.now c.in_ok-decls.decls.items c.deref-2.result.now declarations c.deref-2.ensures.value c.in_ok-decls.ensures) c.in_err-numbered.ensures.limits)

pub returns-clause-read : goal.returns-clause-read
returns-clause-read c =
    let declarations = c.deref.ensures.value ∙ ap (λ (o : OutlineParts). o.declarations) c.outline.view_is in
    read_within c.args.bytes.now c.in_ok-outline.outline c.deref-2.result.now c.in_ok-sheet.sheet (has_outline c.args.bytes.now c.in_ok-outline.outline c.if-bytes-gt-SHEET_BYTES.false c.in_ok-outline.ensures.outline) c.in_ok-check_outline.ensures (are_kept c.in_ok-outline.outline c.deref.result.now c.in_ok-decls.decls.items c.deref-2.result.now declarations c.deref-2.ensures.value c.in_ok-decls.ensures) c.in_ok-numbered.ensures.limits c.in_ok-sheet.ensures
