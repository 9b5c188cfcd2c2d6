use Rattle.dead_ends.proofs.PairLemmas.{mark_behind}
use Rattle.dead_ends.proofs.dead_ends.DeadEnds.next_mark.Goals as goal

pub returns-clause-mark : goal.returns-clause-mark
returns-clause-mark c =
    rw (← c.self.view_is) (mark_behind (record { begin = c.self.inside.begin; states = c.self.inside.states; step = c.self.inside.step; words = c.self.inside.words.items }) c.args.place (rw (← c.self.view_is) at c.requires.begun) c.self.invariant.apart)
