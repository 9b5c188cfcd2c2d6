use Rattle.std.proofs.Common.{arith}
use Rattle.sample_text.proofs.ClosingLemmas.{have_closings, next_round, next_below}
use Rattle.sample_text.proofs.closing.closing_rules.Goals as goal

pub returns-then-not-close_round-clause-closings : goal.returns-then-not-close_round-clause-closings
returns-then-not-close_round-clause-closings c =
    have_closings c.args.grammar.now c.loop-height.height c.close_round.new.closings.items (omega arith) c.close_round.ensures.round (c.close_round.ensures.none c.if-not-close_round.true) c.requires

pub loop-height-preserved : goal.loop-height-preserved
loop-height-preserved c = record {
  round = next_round c.args.grammar.now c.loop-height.height c.close_round.new.closings.items c.close_round.ensures.round;
  below = next_below c.args.grammar.now c.loop-height.height c.close_round.new.closings.items c.close_round.ensures.round;
}
