-- Names of tokens in a diagnostic, by the printed names of all tokens in order of number.
use Rattle.std.specs.Prelude.{ℕ, List, ◌++◌, slice_get, unwrap_or, [], codes}
use Rattle.std.specs.List.{flat_map}

-- the printed name of a token; nothing where it has none
abbrev pub name_by : List (List ℕ) → ℕ → List ℕ
name_by names token = unwrap_or (slice_get names token) []

-- a comma, a space and a name for each token
abbrev pub listed_behind : List (List ℕ) → List ℕ → List ℕ
listed_behind names tokens = flat_map (λ token. codes ", " ++ name_by names token) tokens
