-- Laws of sets and patterns.
use Rattle.std.specs.Prelude.{◌≡◌, ◌≢◌, ℕ, ◌<◌, ◌↔◌, List, length, Contains}
use Rattle.pattern_data.specs.declared.pattern.Pattern.{Pattern}
use Rattle.pattern_data.specs.Bytes.{IsMember, only_byte}
use Rattle.pattern_data.specs.Spellings.{IsSpelling}
use Rattle.pattern_data.specs.Printing.{normal_spelling}
use Rattle.pattern_data.specs.Language.{Matches, IsLiteral, literal_pattern, positions_of}

-- the set of one byte has that byte and no other
abbrev pub OneByteLaw : Type 0
OneByteLaw = (byte other : ℕ) → byte < 256 → byte ≢ 10 → IsMember (only_byte byte) other ↔ (other ≡ byte)

-- a literal matches its bytes and nothing else
abbrev pub LiteralLaw : Type 0
LiteralLaw = (bytes w : List ℕ) → IsLiteral bytes → Matches (literal_pattern bytes) w ↔ (w ≡ bytes)

-- no string of a pattern has a line feed
abbrev pub NoLineFeedLaw : Type 0
NoLineFeedLaw = (pattern : Pattern) (w : List ℕ) → Matches pattern w → ¬ (Contains w 10)

-- a literal has a position for each byte
abbrev pub PositionsLaw : Type 0
PositionsLaw = (bytes : List ℕ) → IsLiteral bytes → positions_of (literal_pattern bytes) ≡ length bytes

-- a text spells one pattern at most
abbrev pub OneSpellingLaw : Type 0
OneSpellingLaw = (text : List ℕ) (one other : Pattern) → IsSpelling text one → IsSpelling text other → one ≡ other

-- the normal spelling of a pattern that some text spells is a spelling of it
abbrev pub NormalSpellingLaw : Type 0
NormalSpellingLaw = (text : List ℕ) (pattern : Pattern) → IsSpelling text pattern → IsSpelling (normal_spelling pattern) pattern

-- no spelling has a line feed
abbrev pub NoFeedInSpellingLaw : Type 0
NoFeedInSpellingLaw = (text : List ℕ) (pattern : Pattern) → IsSpelling text pattern → ¬ (Contains text 10)
