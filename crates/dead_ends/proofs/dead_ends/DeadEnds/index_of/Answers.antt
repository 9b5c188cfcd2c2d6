use Rattle.std.proofs.Common.{arith}
use Rattle.dead_ends.proofs.PairLemmas.{index_here, no_mark}
use Rattle.dead_ends.proofs.dead_ends.DeadEnds.index_of.Goals as goal

pub returns-then-past-self-ne0 : goal.returns-then-past-self-ne0
returns-then-past-self-ne0 c = λ can. no_mark (record { begin = c.self.inside.begin; states = c.self.inside.states; step = c.self.inside.step; words = c.self.inside.words.items }) c.args.place c.if-past-self-ne0.true ((rw (← c.self.view_is) at can).0)

pub returns : goal.returns
returns c =
    rw (← c.self.view_is) (index_here (record { begin = c.self.inside.begin; states = c.self.inside.states; step = c.self.inside.step; words = c.self.inside.words.items }) c.args.place c.args.state c.from-number.result c.from-number.ensures (omega arith) (omega arith) (omega arith))
