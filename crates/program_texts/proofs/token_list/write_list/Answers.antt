use Rattle.std.proofs.Common.{refl, sym, ap, ◌∙◌, ◌++◌, take, append-nil, rules, arith}
use Rattle.std.specs.List.{flat_map}
use Rattle.sheet_theory.specs.TokenList.{token_line, end_line, listed_tokens}
use Rattle.writing_theory.specs.Writing.{IsWritten, all_taken, part_taken}
use Rattle.writing_theory.specs.declared.fault.WriteFault.TheVariants.{Failed, NoMemory}
use Rattle.writing_theory.proofs.BlockLemmas.{passes_more, fails_behind, all_passed, cut_behind, around_item, one_more, all_lines, err_at}
use Rattle.program_texts.proofs.token_list.write_list.Goals as goal

pub returns-in_err-push_token-clause-written : goal.returns-in_err-push_token-clause-written
unfolding listed_tokens
returns-in_err-push_token-clause-written g c =
    let line = token_line c.args.names.now c.args.lines.now in
    err_at (IsWritten _ _ _) c.from_residual.result NoMemory c.from_residual.ensures.1
    (cut_behind _ _ _ _ _ _ _ refl c.loop-token.invariant.passed (around_item line c.args.tokens.now c.loop-token.token-index c.token-item.result (end_line c.args.lines.now) (omega arith) c.token-item.is))

pub returns-in_err-pass-clause-written : goal.returns-in_err-pass-clause-written
unfolding listed_tokens
returns-in_err-pass-clause-written g c =
    let line = token_line c.args.names.now c.args.lines.now in
    err_at (IsWritten _ _ _) c.from_residual-in_err-pass.result Failed c.from_residual-in_err-pass.ensures.1
    (part_taken refl (fails_behind _ _ _ _ _ _ _ _ _ c.loop-token.invariant.passed c.in_ok-push_token.ensures c.in_err-pass.ensures.failed
    (around_item line c.args.tokens.now c.loop-token.token-index c.token-item.result (end_line c.args.lines.now) (omega arith) c.token-item.is)))

pub loop-token-preserved : goal.loop-token-preserved
loop-token-preserved g c =
    let line = token_line c.args.names.now c.args.lines.now in
    record {
      passed = passes_more _ _ _ _ _ _ _ _ _ c.loop-token.invariant.passed c.in_ok-push_token.ensures c.in_ok-pass.ensures.passed (one_more line c.args.tokens.now c.loop-token.token-index c.token-item.result (omega arith) c.token-item.is);
      same = search rules;
    }

pub returns-in_err-push_end-clause-written : goal.returns-in_err-push_end-clause-written
unfolding listed_tokens
returns-in_err-push_end-clause-written g c =
    let line = token_line c.args.names.now c.args.lines.now in
    err_at (IsWritten _ _ _) c.from_residual-in_err-push_end.result NoMemory c.from_residual-in_err-push_end.ensures.1
    (cut_behind _ _ _ _ _ _ _ refl c.loop-token.invariant.passed (all_lines line c.args.tokens.now c.loop-token.token-index (end_line c.args.lines.now) (omega arith)))

pub returns-in_err-finish-clause-written : goal.returns-in_err-finish-clause-written
unfolding listed_tokens
returns-in_err-finish-clause-written g c =
    let line = token_line c.args.names.now c.args.lines.now in
    let ending = end_line c.args.lines.now in
    let joined = all_lines line c.args.tokens.now c.loop-token.token-index ending (omega arith) ∙ ap (λ l. flat_map line (take c.loop-token.token-index c.args.tokens.now) ++ l) (sym (append-nil ending)) in
    err_at (IsWritten _ _ _) c.from_residual-in_err-finish.result Failed c.from_residual-in_err-finish.ensures.1
    (part_taken refl (fails_behind _ _ _ _ _ _ _ _ _ c.loop-token.invariant.passed c.in_ok-push_end.ensures c.in_err-finish.ensures.failed joined))

pub returns-clause-written : goal.returns-clause-written
unfolding listed_tokens
returns-clause-written g c =
    let line = token_line c.args.names.now c.args.lines.now in
    all_taken refl (all_passed _ _ _ _ _ _ _ _ c.loop-token.invariant.passed c.in_ok-push_end.ensures c.in_ok-finish.ensures.whole (all_lines line c.args.tokens.now c.loop-token.token-index (end_line c.args.lines.now) (omega arith)))
