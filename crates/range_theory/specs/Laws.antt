-- Laws of the tokens of segments that stand one after another.
use Rattle.std.specs.Prelude.{◌≡◌, ℕ, ◌+◌, ◌<◌, ◌≤◌, List, ◌++◌, length, slice_get, Some, All}
use Rattle.grammar_data.specs.declared.token.Token.{Token as TextToken}
use Rattle.scanning_theory.specs.Lines.{line_starts}
use Rattle.scanning_theory.specs.Scan.{Scanning, AreTokens, AreTokensOfLines}
use Rattle.cutting_theory.specs.Cuttings.{IsCutting, AreTokensOfSegments, segments_of}
use Rattle.table_data.specs.Tables.{Tables}
use Rattle.part_laws.specs.InAll.{HavePartsInAll}
use Rattle.range_theory.specs.Ranges.{AreTokensOfRange, all_of}

-- no bound of a cutting is behind the last line
abbrev pub BoundLaw : Type 0
BoundLaw = (lines : ℕ) (bounds : List ℕ) (i bound : ℕ) → IsCutting lines bounds → slice_get bounds i ≡ Some bound → bound ≤ lines

-- two ranges of which one begins where the other ends are one
abbrev pub RangesJoinLaw : Type 0
RangesJoinLaw = (scanning : Scanning) (text bounds : List ℕ) (first middle last : ℕ) (lists others : List (List TextToken)) → AreTokensOfRange scanning text bounds middle first lists → AreTokensOfRange scanning text bounds last middle others → AreTokensOfRange scanning text bounds last first (lists ++ others)

-- the tokens of a range are those of the lines between its bounds
abbrev pub RangeLinesLaw : Type 0
RangeLinesLaw = (scanning : Scanning) (text bounds : List ℕ) (first last from to : ℕ) (lists : List (List TextToken)) → AreTokensOfRange scanning text bounds last first lists → slice_get bounds first ≡ Some from → slice_get bounds last ≡ Some to → AreTokensOfLines scanning text to from (all_of lists)

-- those of the range of all segments are the tokens of the segments
abbrev pub WholeRangeLaw : Type 0
WholeRangeLaw = (scanning : Scanning) (text bounds : List ℕ) (lists : List (List TextToken)) → AreTokensOfRange scanning text bounds (segments_of bounds) 0 lists → AreTokensOfSegments scanning text bounds lists

-- there are no more parts than tokens
abbrev pub FewPartsLaw : Type 0
FewPartsLaw = (t : Tables) (lists : List (List TextToken)) (count : ℕ) → HavePartsInAll t lists count → count ≤ length (all_of lists)

-- the parts of lists one after another are added up
abbrev pub PartsBothLaw : Type 0
PartsBothLaw = (t : Tables) (lists others : List (List TextToken)) (count other : ℕ) → HavePartsInAll t lists count → HavePartsInAll t others other → HavePartsInAll t (lists ++ others) (count + other)

-- the tokens of some lines are no more than a whole text may have, where each pattern has a meaning
abbrev pub FewTokensLaw : Type 0
FewTokensLaw = (scanning : Scanning) → length scanning.patterns ≡ length scanning.means → (text : List ℕ) (most : ℕ) → ((tokens : List TextToken) → AreTokens scanning text tokens → length tokens ≤ most) → (from to : ℕ) (tokens : List TextToken) → to ≤ length (line_starts text) → AreTokensOfLines scanning text to from tokens → length tokens ≤ most

-- nor are their numbers larger
abbrev pub SmallTokensLaw : Type 0
SmallTokensLaw = (scanning : Scanning) → length scanning.patterns ≡ length scanning.means → (text : List ℕ) (over : ℕ) → ((tokens : List TextToken) → AreTokens scanning text tokens → All (λ (token : TextToken). token.id < over) tokens) → (from to : ℕ) (tokens : List TextToken) → to ≤ length (line_starts text) → AreTokensOfLines scanning text to from tokens → All (λ (token : TextToken). token.id < over) tokens
