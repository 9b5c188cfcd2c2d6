-- How a number of 32 bits tells a state or none.
use Rattle.std.specs.Prelude.{ℕ, ◌+◌, ◌-◌, ◌==◌, if◌then◌else◌, Option, Some, None}

-- 0 tells none, and each other number the state that is one less
abbrev pub state_of : ℕ → Option ℕ
state_of code = (if code == 0 then None else Some (code - 1))

abbrev pub code_of : Option ℕ → ℕ
code_of None = 0
code_of (Some p) = p + 1
