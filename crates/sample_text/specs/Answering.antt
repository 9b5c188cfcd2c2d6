-- What is answered where there is no text.
use Rattle.std.specs.Prelude.{ℕ, List}
use Rattle.grammar_data.specs.Grammar.{Grammar}
use Rattle.pattern_data.specs.declared.pattern.Meaning.{Meaning}
use Rattle.sample_theory.specs.Samples.{IsSample, NoSample as no_sample, TooLong as too_long}
use Rattle.scanning_theory.specs.Scan.{Scanning}
use Rattle.token_patterns.specs.Scanner.{Table}
use Rattle.sample_text.specs.declared.fault.SampleFault.{SampleFault}
use Rattle.sample_text.specs.declared.fault.SampleFault.TheVariants.{NoSample, TooLong, NoMemory}
use Rattle.sample_text.specs.Wording.{IsScannedBy}

-- by whatever patterns the scanner goes, there is no sample for this cause
abbrev pub IsFault : Table → List Meaning → Grammar → ℕ → ℕ → SampleFault → Type 0
IsFault table means g from size (NoSample a) = (scanning : Scanning) → IsScannedBy table means scanning → IsSample scanning g from size (no_sample a)
IsFault table means g from size TooLong = (scanning : Scanning) → IsScannedBy table means scanning → IsSample scanning g from size too_long
IsFault table means g from size NoMemory = Unit {0}
