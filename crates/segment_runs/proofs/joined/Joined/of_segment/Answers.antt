use Rattle.std.proofs.Common.{rules, ◌+◌, ◌≤◌, length, subst, arith}
use Rattle.range_theory.proofs.RangeLemmas.{bound_within}
use Rattle.segment_runs.proofs.TokenLemmas.{few_tokens, small_tokens}
use Rattle.segment_runs.proofs.JoinedLemmas.{of_parsed}
use Rattle.segment_runs.proofs.joined.Joined.of_segment.Goals as goal

pub lex_lines-requires-clause-within : goal.lex_lines-requires-clause-within
lex_lines-requires-clause-within c =
    bound_within (length c.args.job.now.lines.now) c.args.job.now.cutting.now (c.args.segment + 1) c.bounds-from.result.1 c.requires.can.cutting c.bounds-from.ensures.end

pub parse_segment_by-requires-clause-few : goal.parse_segment_by-requires-clause-few
parse_segment_by-requires-clause-few c =
    let job = c.args.job.now in
    let can = c.requires.can in
    let behind = bound_within (length job.lines.now) job.cutting.now (c.args.segment + 1) c.bounds-from.result.1 can.cutting c.bounds-from.ensures.end in
    rw c.deref.ensures.value (few_tokens job can c.bounds-from.result.0 c.bounds-from.result.1 c.in_ok-tokens.tokens.items (subst (λ l. c.bounds-from.result.1 ≤ length l) can.lines behind) (c.in_ok-tokens.ensures can.patterns can.scanner))

pub parse_segment_by-requires-clause-tokens : goal.parse_segment_by-requires-clause-tokens
parse_segment_by-requires-clause-tokens c =
    let job = c.args.job.now in
    let can = c.requires.can in
    let behind = bound_within (length job.lines.now) job.cutting.now (c.args.segment + 1) c.bounds-from.result.1 can.cutting c.bounds-from.ensures.end in
    let few = c.holds.ensures.few_tokens in
    rw c.deref.ensures.value (small_tokens job can c.bounds-from.result.0 c.bounds-from.result.1 c.in_ok-tokens.tokens.items (subst (λ l. c.bounds-from.result.1 ≤ length l) can.lines behind) (c.in_ok-tokens.ensures can.patterns can.scanner) (omega (arith, few)))

pub returns-clause-joined : goal.returns-clause-joined
returns-clause-joined c =
    of_parsed c.args.job.now c.args.segment c.bounds-from.result.0 c.bounds-from.result.1 c.in_ok-tokens.tokens.items c.deref.result.now c.args.arrows.now.0 c.in_ok-block.field-0.block.closed c.in_ok-block.field-0.store c.in_ok-new.field-0 c.len.result c.count-count.result
    c.bounds-from.ensures.begin c.bounds-from.ensures.end (λ patterns scanner. c.in_ok-tokens.ensures patterns scanner) c.deref.ensures.value c.requires.tables c.in_ok-new.ensures c.in_ok-block.ensures.pieces c.in_ok-block.ensures.parts c.in_ok-block.ensures.chunk (search rules) (search rules)
