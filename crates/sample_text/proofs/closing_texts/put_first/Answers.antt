use Rattle.std.proofs.Common.{◌∙◌}
use Rattle.sample_text.proofs.SamplingLemmas.{first_turned, turned_more, all_turned}
use Rattle.sample_text.proofs.closing_texts.put_first.Goals as goal

pub loop-place-init : goal.loop-place-init
loop-place-init c = first_turned c.args.todo.now.items c.args.right.now

pub loop-place-preserved : goal.loop-place-preserved
loop-place-preserved c = turned_more c.args.todo.now.items c.loop-place.todo.items c.push.new.self.items c.args.right.now c.loop-place.place c.index-right-right.result c.loop-place-test.true c.loop-place.invariant c.index-right-right.is c.in_ok-push.ensures.items

pub returns : goal.returns
returns c = c.loop-place.invariant ∙ all_turned c.args.todo.now.items c.args.right.now c.loop-place.place c.loop-place-test.false
