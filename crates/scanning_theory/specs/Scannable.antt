-- The patterns that a scan may go by.
use Rattle.std.specs.Prelude.{◌≤◌, sum, List, [], length, map, All}
use Rattle.pattern_data.specs.declared.pattern.Pattern.{Pattern}
use Rattle.pattern_data.specs.Language.{Matches, positions_of}
use Rattle.scanning_theory.specs.declared.limits.TheConstants.{PATTERNS, POSITIONS}

-- the patterns keep the limits, and none has the empty string
pub record IsScannable (patterns : List Pattern) : Type 0 where
  pub count : length patterns ≤ PATTERNS
  pub positions : sum (map positions_of patterns) ≤ POSITIONS
  pub not_empty : All (λ pattern. ¬ (Matches pattern [])) patterns
