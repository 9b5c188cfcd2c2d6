-- How many positions a pattern has at the most.
use Rattle.std.specs.Prelude.{ℕ, ◌≤◌, List, length}
use Rattle.pattern_data.specs.declared.pattern.Pattern.{Pattern}
use Rattle.pattern_data.specs.Language.{positions_of}
use Rattle.pattern_data.specs.Spellings.{IsSpelling}

-- a pattern has no more positions than each of its spellings has bytes
abbrev pub SpellingPositionsLaw : Type 0
SpellingPositionsLaw = (text : List ℕ) (pattern : Pattern) → IsSpelling text pattern → positions_of pattern ≤ length text
