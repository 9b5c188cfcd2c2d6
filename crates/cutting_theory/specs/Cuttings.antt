-- Cuttings. The lines of a text, counted from 0, are cut into segments by a list of bounds, one more than there are
-- segments: segment i has the lines from bound i up to bound i + 1, and may have none.
use Rattle.std.specs.Prelude.{◌≡◌, ℕ, ◌+◌, ◌-◌, ◌*◌, ◌/◌, ◌<◌, ◌≤◌, min, List, [], ◌∷◌, ◌++◌, length, map, slice_get, Some, All}
use Rattle.cutting_theory.specs.declared.limits.TheConstants.{SEGMENTS}
use Rattle.grammar_data.specs.declared.token.Token.{Token}
use Rattle.scanning_theory.specs.Scan.{Scanning, AreTokensOfLines}

-- a list that never falls: each number is at most the next
abbrev pub IsNeverFalling : List ℕ → Type 0
IsNeverFalling numbers = (i low high : ℕ) → slice_get numbers i ≡ Some low → slice_get numbers (i + 1) ≡ Some high → low ≤ high

-- the number of segments that these bounds make
abbrev pub segments_of : List ℕ → ℕ
segments_of bounds = length bounds - 1

-- these bounds cut so many lines into 1 to 4,096 segments: they go from line 0 to the end and never fall
pub record IsCutting (lines : ℕ) (bounds : List ℕ) : Type 0 where
  pub some : 1 ≤ segments_of bounds
  pub few : segments_of bounds ≤ SEGMENTS
  pub begins : slice_get bounds 0 ≡ Some 0
  pub ends : slice_get bounds (segments_of bounds) ≡ Some lines
  pub rising : IsNeverFalling bounds

-- k segments whose numbers of lines differ by at most one: bound i is i * lines / k, rounded down
pub record IsEven (lines k : ℕ) (bounds : List ℕ) : Type 0 where
  pub many : length bounds ≡ k + 1
  pub each : (i : ℕ) → i ≤ k → slice_get bounds i ≡ Some ((i * lines) / k)

-- where a segment begins that was asked for at a line counted from 1; a line past the last is the end
abbrev pub begin_of : ℕ → ℕ → ℕ
begin_of lines line = min (line - 1) lines

-- the bounds where a segment begins at the first line, and at each listed one
abbrev pub bounds_at : ℕ → List ℕ → List ℕ
bounds_at lines begins = 0 ∷ (map (begin_of lines) begins ++ lines ∷ [])

-- lines at which segments can be asked to begin: fewer than there may be segments, counted from 1, and never falling
pub record AreBegins (begins : List ℕ) : Type 0 where
  pub few : length begins < SEGMENTS
  pub counted : All (λ line. 1 ≤ line) begins
  pub order : IsNeverFalling begins

-- these lists are the tokens of the segments, in their order
pub record AreTokensOfSegments (scanning : Scanning) (text : List ℕ) (bounds : List ℕ) (parts : List (List Token)) : Type 0 where
  pub many : length parts ≡ segments_of bounds
  pub each : (i from to : ℕ) (tokens : List Token) → slice_get bounds i ≡ Some from → slice_get bounds (i + 1) ≡ Some to → slice_get parts i ≡ Some tokens → AreTokensOfLines scanning text to from tokens
