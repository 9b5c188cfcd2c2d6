use Rattle.std.proofs.Common.{ap, length, sym, arith}
use Rattle.pattern_data.proofs.MemberLemmas.{members_none, members_fail, members_all, members_more}
use Rattle.pattern_data.proofs.classes.front_members.Goals as goal

pub loop-range-init : goal.loop-range-init
loop-range-init c = members_none c.args.text.now

pub returns-in_default-clause-front : goal.returns-in_default-clause-front
returns-in_default-clause-front c = λ ranges rest d. members_fail c.args.text.now c.loop-range.words c.loop-range.left.now c.loop-range.invariant (sym c.in_default.ensures.front) ranges rest d

pub returns-in-Some-behind_bracket-clause-front : goal.returns-in-Some-behind_bracket-clause-front
returns-in-Some-behind_bracket-clause-front c =
    members_all c.args.text.now c.loop-range.words c.insert_range.new.words c.loop-range.left.now c.in-Some.behind.now c.in-Some-behind_bracket.rest.now c.in-Some.range c.loop-range.invariant
    (sym c.in-Some.ensures.front) c.in-Some-behind_bracket.ensures c.insert_range.ensures

pub returns-in-Some-behind_bracket-clause-shorter : goal.returns-in-Some-behind_bracket-clause-shorter
returns-in-Some-behind_bracket-clause-shorter c = omega (arith, ap length c.in-Some-behind_bracket.ensures, c.in-Some.ensures.shorter, c.loop-range.invariant.left_len)

pub loop-range-preserved : goal.loop-range-preserved
loop-range-preserved c =
    members_more c.args.text.now c.loop-range.words c.insert_range.new.words c.loop-range.left.now c.in-Some.behind.now c.in-Some.range c.loop-range.invariant
    (sym c.in-Some.ensures.front) c.in_default-behind_bracket.ensures c.insert_range.ensures c.in-Some.ensures.shorter
