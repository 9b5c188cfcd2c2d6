-- Laws of cuttings: two ways to cut give cuttings, and the tokens of segments go together.
use Rattle.std.specs.Prelude.{ℕ, ◌≤◌, List, flat_map}
use Rattle.cutting_theory.specs.declared.limits.TheConstants.{SEGMENTS}
use Rattle.cutting_theory.specs.Cuttings.{IsCutting, IsEven, bounds_at, AreBegins, AreTokensOfSegments}
use Rattle.grammar_data.specs.declared.token.Token.{Token}
use Rattle.scanning_theory.specs.Scan.{Scanning, AreTokensOfLines}

-- even bounds are a cutting
abbrev pub EvenLaw : Type 0
EvenLaw = (lines k : ℕ) (bounds : List ℕ) → 1 ≤ k → k ≤ SEGMENTS → IsEven lines k bounds → IsCutting lines bounds

-- so are those at listed lines
abbrev pub AtLaw : Type 0
AtLaw = (lines : ℕ) (begins : List ℕ) → AreBegins begins → IsCutting lines (bounds_at lines begins)

-- the tokens of the segments of a cutting, one after another, are those of all its lines
abbrev pub SegmentTokensLaw : Type 0
SegmentTokensLaw = (scanning : Scanning) (text : List ℕ) (lines : ℕ) (bounds : List ℕ) (parts : List (List Token)) → IsCutting lines bounds → AreTokensOfSegments scanning text bounds parts → AreTokensOfLines scanning text lines 0 (flat_map (λ part. part) parts)
