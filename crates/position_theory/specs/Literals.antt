-- The states of literals: no more than their bytes, and the start.
use Rattle.std.specs.Prelude.{◌≡◌, ℕ, ◌+◌, ◌<◌, sum, List, map, All}
use Rattle.pattern_data.specs.declared.pattern.Pattern.{Pattern}
use Rattle.pattern_data.specs.Language.{IsLiteral, literal_pattern, positions_of}
use Rattle.position_theory.specs.States.{HasMoreStates}

-- the pattern is that of a literal
abbrev pub IsLiteralPattern : Pattern → Type 0
IsLiteralPattern pattern = (bytes : List ℕ) × IsLiteral bytes × (pattern ≡ literal_pattern bytes)

-- literals have no more states than positions, and the start
abbrev pub LiteralStatesLaw : Type 0
LiteralStatesLaw = (patterns : List Pattern) (limit : ℕ) → All IsLiteralPattern patterns → HasMoreStates patterns limit → limit < 1 + sum (map positions_of patterns)
