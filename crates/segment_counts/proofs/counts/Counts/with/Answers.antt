use Rattle.std.proofs.Common.{rules, ◌≡◌, ◌+◌, ◌≤◌, length, ap, subst, arith}
use Rattle.part_theory.specs.Parts.{HasParts}
use Rattle.range_theory.proofs.RangeLemmas.{bound_within, has_few}
use Rattle.segment_counts.proofs.TokenLemmas.{few_tokens, small_tokens}
use Rattle.segment_counts.proofs.CountLemmas.{few_counted, one_more}
use Rattle.segment_counts.proofs.counts.Counts.with.Goals as goal

pub lex_lines-requires-clause-within : goal.lex_lines-requires-clause-within
lex_lines-requires-clause-within c =
    bound_within (length c.args.job.now.lines.now) c.args.job.now.cutting.now (c.args.segment + 1) c.bounds-from.result.1 c.requires.can.cutting c.bounds-from.ensures.end

pub parse_segment_by-requires-clause-few : goal.parse_segment_by-requires-clause-few
parse_segment_by-requires-clause-few c =
    let job = c.args.job.now in
    let can = c.requires.can in
    let behind = bound_within (length job.lines.now) job.cutting.now (c.args.segment + 1) c.bounds-from.result.1 can.cutting c.bounds-from.ensures.end in
    rw c.deref.ensures.value (few_tokens job can c.bounds-from.result.0 c.bounds-from.result.1 c.in_ok-tokens.tokens.items (subst (λ l. c.bounds-from.result.1 ≤ length l) can.lines behind) (c.in_ok-tokens.ensures can.patterns can.scanner))

pub parse_segment_by-requires-clause-tokens : goal.parse_segment_by-requires-clause-tokens
parse_segment_by-requires-clause-tokens c =
    let job = c.args.job.now in
    let can = c.requires.can in
    let behind = bound_within (length job.lines.now) job.cutting.now (c.args.segment + 1) c.bounds-from.result.1 can.cutting c.bounds-from.ensures.end in
    let few = c.holds.ensures.few_tokens in
    rw c.deref.ensures.value (small_tokens job can c.bounds-from.result.0 c.bounds-from.result.1 c.in_ok-tokens.tokens.items (subst (λ l. c.bounds-from.result.1 ≤ length l) can.lines behind) (c.in_ok-tokens.ensures can.patterns can.scanner) (omega (arith, few)))

pub overflow_add-result : goal.overflow_add-result
overflow_add-result c =
    let job = c.args.job.now in
    let can = c.requires.can in
    let inside = c.requires.within in
    let behind = bound_within (length job.lines.now) job.cutting.now (c.args.segment + 1) c.bounds-from.result.1 can.cutting c.bounds-from.ensures.end in
    let some = few_tokens job can c.bounds-from.result.0 c.bounds-from.result.1 c.in_ok-tokens.tokens.items (subst (λ l. c.bounds-from.result.1 ≤ length l) can.lines behind) (c.in_ok-tokens.ensures can.patterns can.scanner) in
    let before = few_counted job can c.args.segment c.args.self.tokens c.args.self.pieces (omega (arith, inside)) c.requires.counts in
    let counted : c.len.result ≡ length c.in_ok-tokens.tokens.items = search rules in
    omega (arith, some, before, counted)

pub overflow_add-result-2 : goal.overflow_add-result-2
overflow_add-result-2 c =
    let job = c.args.job.now in
    let can = c.requires.can in
    let inside = c.requires.within in
    let behind = bound_within (length job.lines.now) job.cutting.now (c.args.segment + 1) c.bounds-from.result.1 can.cutting c.bounds-from.ensures.end in
    let some = few_tokens job can c.bounds-from.result.0 c.bounds-from.result.1 c.in_ok-tokens.tokens.items (subst (λ l. c.bounds-from.result.1 ≤ length l) can.lines behind) (c.in_ok-tokens.ensures can.patterns can.scanner) in
    let before = few_counted job can c.args.segment c.args.self.tokens c.args.self.pieces (omega (arith, inside)) c.requires.counts in
    let parts = has_few c.in_ok-parsed.ensures.parts in
    let listed = ap length c.deref.ensures.value in
    let counted : c.count.result ≡ length c.in_ok-parsed.parsed.block.closed = search rules in
    omega (arith, some, before, parts, listed, counted)

pub returns-clause-counts : goal.returns-clause-counts
returns-clause-counts c =
    let job = c.args.job.now in
    let found = c.in_ok-tokens.tokens.items in
    let counted : c.len.result ≡ length found = search rules in
    let pieces : c.count.result ≡ length c.in_ok-parsed.parsed.block.closed = search rules in
    one_more job c.args.segment c.args.self.tokens c.args.self.pieces c.requires.counts c.bounds-from.result.0 c.bounds-from.result.1 found c.bounds-from.ensures.begin c.bounds-from.ensures.end (λ patterns scanner. c.in_ok-tokens.ensures patterns scanner)
    (length c.in_ok-parsed.parsed.block.closed)
    (subst (λ t. HasParts t found (length c.in_ok-parsed.parsed.block.closed)) c.requires.tables (subst (λ l. HasParts c.args.arrows.now.0 l (length c.in_ok-parsed.parsed.block.closed)) c.deref.ensures.value c.in_ok-parsed.ensures.parts))
    (c.args.self.tokens + c.len.result) (c.args.self.pieces + c.count.result) (ap (λ n. c.args.self.tokens + n) counted) (ap (λ n. c.args.self.pieces + n) pieces)
