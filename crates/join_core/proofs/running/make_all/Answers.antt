use Rattle.std.proofs.Common.{sym, ◌∙◌}
use Rattle.std.proofs.lemmas.Bool.{true≢false}
use Rattle.join_core.specs.declared.call.Call.TheVariants.{Claim}
use Rattle.join_core.proofs.CallLemmas.{runs_none, runs_more, stops_here, stops_at_end}
use Rattle.join_core.proofs.running.make_all.Goals as goal

pub loop-made-init : goal.loop-made-init
loop-made-init c = (runs_none c.args.core.now, c.requires)

pub returns-then-not-may_make-clause-stops : goal.returns-then-not-may_make-clause-stops
returns-then-not-may_make-clause-stops c = stops_here c.args.calls.now c.loop-made.made Claim c.loop-made-test.true (λ met. true≢false (sym (c.may_make.ensures.1 met) ∙ c.if-not-may_make.true))

pub loop-made-preserved : goal.loop-made-preserved
loop-made-preserved c = (runs_more c.args.calls.now c.loop-made.made Claim c.loop-made-test.true c.loop-made.invariant.0 c.make.ensures.made, c.make.ensures.covered)

pub returns-clause-stops : goal.returns-clause-stops
returns-clause-stops c = stops_at_end c.args.calls.now
