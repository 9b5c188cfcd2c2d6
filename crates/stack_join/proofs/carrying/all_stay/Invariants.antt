use Rattle.std.proofs.Common.{ℕ, ◌<◌, Option, IsSome, get_or}
use Rattle.stack_join.proofs.carrying.all_stay.Given as goal

abbrev pub invariant-loop-image : goal.invariant-loop-image
invariant-loop-image l = (k : ℕ) (d : Option ℕ) → k < l.image-index → IsSome (get_or l.images k d)
