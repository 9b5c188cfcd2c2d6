-- Counts that are kept in 64 bits.
use Rattle.std.specs.Prelude.{ℕ, ◌+◌, ◌-◌, ◌^◌, min, Bool, List, ◌==◌}
use Rattle.std.specs.List.{list_any}

-- the count after one more: it stands still at its greatest value
abbrev pub raised : ℕ → ℕ
raised count = min (count + 1) (2 ^ 64 - 1)

-- whether the call after so many of them has one of the numbers; the first call has the number 1
abbrev pub is_next_among : List ℕ → ℕ → Bool
is_next_among numbers calls = list_any (λ number. number == raised calls) numbers
