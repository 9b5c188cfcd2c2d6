use Rattle.std.proofs.Common.{◌-◌, ◌^◌, min, sym, ap, ◌∙◌, arith}
use Rattle.position_sets.proofs.OpenLemmas.{opens_sequence, opens_choice, opens_star, opens_plus, opens_option}
use Rattle.position_sets.proofs.DepthLemmas.{sequence_deeper, choice_deeper, star_deeper, plus_deeper, option_deeper, member_deeper}
use Rattle.position_sets.proofs.BeginLemmas.{count_rest}
use Rattle.position_sets.proofs.AddLemmas.{set_count, sequence_count, choice_count, star_count, plus_count, option_count}
use Rattle.position_sets.proofs.counting.+counts.Goals as goal

pub count_positions-count_together-requires : goal.count_positions-count_together-requires
count_positions-count_together-requires t c =
    let p = c.args.pattern.now in
    let deeper = sequence_deeper p c.in-Seq.members c.as_slice.result.now (opens_sequence p c.in-Seq.members c.in-Seq.is) c.as_slice.ensures in
    (omega (arith, deeper), tt)

pub count_positions-returns-in-Seq : goal.count_positions-returns-in-Seq
count_positions-returns-in-Seq t c =
    let p = c.args.pattern.now in
    c.count_together.ensures ∙ ap (λ n. min n (2 ^ 64 - 1)) (sym (sequence_count p c.in-Seq.members c.as_slice.result.now c.in-Seq.is c.as_slice.ensures))

pub count_positions-count_together-requires-in-Alt : goal.count_positions-count_together-requires-in-Alt
count_positions-count_together-requires-in-Alt t c =
    let p = c.args.pattern.now in
    let deeper = choice_deeper p c.in-Alt.members c.as_slice-in-Alt.result.now (opens_choice p c.in-Alt.members c.in-Alt.is) c.as_slice-in-Alt.ensures in
    (omega (arith, deeper), tt)

pub count_positions-returns-in-Alt : goal.count_positions-returns-in-Alt
count_positions-returns-in-Alt t c =
    let p = c.args.pattern.now in
    c.count_together-in-Alt.ensures ∙ ap (λ n. min n (2 ^ 64 - 1)) (sym (choice_count p c.in-Alt.members c.as_slice-in-Alt.result.now c.in-Alt.is c.as_slice-in-Alt.ensures))

pub count_positions-count_positions-requires : goal.count_positions-count_positions-requires
count_positions-count_positions-requires t c =
    let p = c.args.pattern.now in
    let deeper = star_deeper p c.in-Star.inner c.get.result.now (opens_star p c.in-Star.inner c.in-Star.is) c.get.ensures in
    (omega (arith, deeper), tt)

pub count_positions-returns-in-Star : goal.count_positions-returns-in-Star
count_positions-returns-in-Star t c =
    let p = c.args.pattern.now in
    c.count_positions.ensures ∙ ap (λ n. min n (2 ^ 64 - 1)) (sym (star_count p c.in-Star.inner c.get.result.now c.in-Star.is c.get.ensures))

pub count_positions-count_positions-requires-in-Plus : goal.count_positions-count_positions-requires-in-Plus
count_positions-count_positions-requires-in-Plus t c =
    let p = c.args.pattern.now in
    let deeper = plus_deeper p c.in-Plus.inner c.get-in-Plus.result.now (opens_plus p c.in-Plus.inner c.in-Plus.is) c.get-in-Plus.ensures in
    (omega (arith, deeper), tt)

pub count_positions-returns-in-Plus : goal.count_positions-returns-in-Plus
count_positions-returns-in-Plus t c =
    let p = c.args.pattern.now in
    c.count_positions-in-Plus.ensures ∙ ap (λ n. min n (2 ^ 64 - 1)) (sym (plus_count p c.in-Plus.inner c.get-in-Plus.result.now c.in-Plus.is c.get-in-Plus.ensures))

pub count_positions-count_positions-requires-in-Opt : goal.count_positions-count_positions-requires-in-Opt
count_positions-count_positions-requires-in-Opt t c =
    let p = c.args.pattern.now in
    let deeper = option_deeper p c.in-Opt.inner c.get-in-Opt.result.now (opens_option p c.in-Opt.inner c.in-Opt.is) c.get-in-Opt.ensures in
    (omega (arith, deeper), tt)

pub count_positions-returns-in-Opt : goal.count_positions-returns-in-Opt
count_positions-returns-in-Opt t c =
    let p = c.args.pattern.now in
    c.count_positions-in-Opt.ensures ∙ ap (λ n. min n (2 ^ 64 - 1)) (sym (option_count p c.in-Opt.inner c.get-in-Opt.result.now c.in-Opt.is c.get-in-Opt.ensures))

pub count_positions-returns-in-Set : goal.count_positions-returns-in-Set
count_positions-returns-in-Set t c = let one = set_count c.args.pattern.now c.in-Set.field-0 c.in-Set.is in omega (arith, one)

pub count_together-count_positions-requires : goal.count_together-count_positions-requires
count_together-count_positions-requires t c =
    let patterns = c.args.patterns.now in
    let at = c.loop-at.at in
    let p = c.index-patterns-at.result in
    let deeper = member_deeper patterns (at - 1) p (omega arith) c.index-patterns-at.is in
    (omega (arith, deeper), tt)

pub count_together-loop-at-preserved : goal.count_together-loop-at-preserved
count_together-loop-at-preserved t c =
    let patterns = c.args.patterns.now in
    let at = c.loop-at.at in
    let p = c.index-patterns-at.result in
    let more = count_rest patterns at p (omega arith) c.loop-at.invariant.inside c.index-patterns-at.is in
    record { inside = omega arith; counted = c.saturating_add-count.ensures ∙ omega (arith, more, c.count_positions.ensures, c.loop-at.invariant.counted) }
