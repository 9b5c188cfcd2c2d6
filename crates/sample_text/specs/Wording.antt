-- Words of tokens, by a scanner and what its ranks mean.
use Rattle.std.specs.Prelude.{◌≡◌, ℕ, ◌<◌, List, [], ◌∷◌, ◌++◌, length, slice_index_or, Option, Some, None}
use Rattle.std.specs.Global.{Vec}
use Rattle.lr_base.specs.declared.limits.TheConstants.{TEXT_BYTES}
use Rattle.pattern_data.specs.declared.pattern.Meaning.{Meaning}
use Rattle.scanning_theory.specs.Lines.{line_feed}
use Rattle.scanning_theory.specs.Scan.{Scanning}
use Rattle.sample_theory.specs.Samples.{HasNoWordFor, IsWordFor}
use Rattle.token_patterns.specs.Scanner.{Table, IsScannerOf}
use Rattle.sample_text.specs.declared.fault.SampleFault.{SampleFault}
use Rattle.sample_text.specs.declared.fault.SampleFault.TheVariants.{NoSample, TooLong, NoMemory}

-- the scanner is that of the patterns, and its ranks mean this
pub record IsScannedBy (table : Table) (means : List Meaning) (scanning : Scanning) : Type 0 where
  pub means_are : scanning.means ≡ means
  pub scanner : IsScannerOf table scanning.patterns

-- where the token has no word it is named; no text is too long yet
abbrev pub IsWithoutWord : Table → List Meaning → ℕ → SampleFault → Type 0
IsWithoutWord table means a (NoSample b) = (b ≡ a) × ((scanning : Scanning) → IsScannedBy table means scanning → HasNoWordFor scanning a)
IsWithoutWord table means a TooLong = ⊥
IsWithoutWord table means a NoMemory = Unit {0}

-- the text passes its limit with one more line; no token is named
abbrev pub IsLonger : List ℕ → List ℕ → SampleFault → Type 0
IsLonger text line (NoSample b) = ⊥
IsLonger text line TooLong = TEXT_BYTES < length (text ++ line)
IsLonger text line NoMemory = Unit {0}

-- the line is the word of the token and a line feed
abbrev pub IsLineFor : Scanning → ℕ → List ℕ → Type 0
IsLineFor scanning a line = (word : List ℕ) × IsWordFor scanning a word × (line ≡ word ++ line_feed ∷ [])

-- the lines that were found are those of their tokens
abbrev pub AreKnown : Table → List Meaning → List (Option (Vec ℕ)) → Type 0
AreKnown table means found = (a : ℕ) (line : Vec ℕ) → slice_index_or found a None ≡ Some line → (scanning : Scanning) → IsScannedBy table means scanning → IsLineFor scanning a line.items

-- the line of the token was found
abbrev pub IsThere : List (Option (Vec ℕ)) → ℕ → Type 0
IsThere found a = (line : Vec ℕ) × (slice_index_or found a None ≡ Some line)

-- the word of the token and a line feed stand behind the text
abbrev pub IsWritten : Table → List Meaning → ℕ → List ℕ → List ℕ → Type 0
IsWritten table means a text new = (scanning : Scanning) → IsScannedBy table means scanning → (word : List ℕ) × IsWordFor scanning a word × (new ≡ text ++ (word ++ line_feed ∷ []))

-- why the word of the token was not written
abbrev pub IsUnwritten : Table → List Meaning → ℕ → List ℕ → SampleFault → Type 0
IsUnwritten table means a text (NoSample b) = (b ≡ a) × ((scanning : Scanning) → IsScannedBy table means scanning → HasNoWordFor scanning a)
IsUnwritten table means a text TooLong = (scanning : Scanning) → IsScannedBy table means scanning → (word : List ℕ) × IsWordFor scanning a word × (TEXT_BYTES < length (text ++ (word ++ line_feed ∷ [])))
IsUnwritten table means a text NoMemory = Unit {0}

-- no line was found
abbrev pub AreUnknown : List (Option (Vec ℕ)) → Type 0
AreUnknown found = (a : ℕ) → slice_index_or found a None ≡ None
