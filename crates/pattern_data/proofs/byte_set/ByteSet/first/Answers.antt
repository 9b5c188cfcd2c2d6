use Rattle.std.proofs.Common.{◌<◌, ◌^◌, get_or, refl, arith}
use Rattle.pattern_data.proofs.ByteLemmas.{first-member, first-least}
use Rattle.pattern_data.proofs.byte_set.ByteSet.first.Goals as goal

pub returns-then-word-ne0-clause-member : goal.returns-then-word-ne0-clause-member
returns-then-word-ne0-clause-member c =
    let below : get_or c.self.inside.words c.loop-index.index 0 < 2 ^ 64 = omega arith in
    rw (← c.self.view_is) (first-member c.self.inside.words c.loop-index.index (get_or c.self.inside.words c.loop-index.index 0) c.self.invariant refl (omega arith) below c.loop-index.invariant _ refl)

pub returns-then-word-ne0-clause-least : goal.returns-then-word-ne0-clause-least
returns-then-word-ne0-clause-least c =
    let below : get_or c.self.inside.words c.loop-index.index 0 < 2 ^ 64 = omega arith in
    rw (← c.self.view_is) (first-least c.self.inside.words c.loop-index.index (get_or c.self.inside.words c.loop-index.index 0) c.self.invariant refl (omega arith) below c.loop-index.invariant)
