use Rattle.std.proofs.Common.{◌≡◌, ℕ, nat_lt}
use Rattle.std.specs.Prelude.{◌&&◌, ◌||◌}
use Rattle.pattern_data.specs.Sets.{has_bit}
use Rattle.pattern_data.specs.Classes.{in_range}
use Rattle.pattern_data.proofs.bits.insert_range.Given as goal

abbrev pub invariant-loop-byte : goal.invariant-loop-byte
invariant-loop-byte l = (other : ℕ) → has_bit l.words other ≡ ((in_range other l.fn.range && nat_lt other l.byte) || has_bit l.fn.words other)
