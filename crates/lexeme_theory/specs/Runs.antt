-- Runs of places: from a place on as long as it goes.
use Rattle.std.specs.Prelude.{◌≡◌, ℕ, ◌<◌, ◌≤◌, Bool, true, false, List, length, slice_index}

-- a place stays in the run as long as `goes` says so, and no further than the limit; the run ends before `to`
pub record IsRun (goes : ℕ → Bool) (limit from to : ℕ) : Type 0 where
  pub ordered : from ≤ to
  pub inside : to ≤ limit
  pub each : (i : ℕ) → from ≤ i → i < to → goes i ≡ true
  pub ended : to < limit → goes to ≡ false

-- the places whose byte is of a kind, as long as they go
abbrev pub IsRunOf : (ℕ → Bool) → List ℕ → ℕ → ℕ → Type 0
IsRunOf kind bytes from to = IsRun (λ i. kind (slice_index bytes i)) (length bytes) from to
