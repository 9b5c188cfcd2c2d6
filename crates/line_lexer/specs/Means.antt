-- What the meanings of the ranks say of a scan.
use Rattle.std.specs.Prelude.{List}
use Rattle.pattern_data.specs.declared.pattern.Pattern.{Pattern}
use Rattle.pattern_data.specs.declared.pattern.Meaning.{Meaning}
use Rattle.scanning_theory.specs.Scan.{Scanning}
pub use Rattle.scanning_theory.specs.Scan.{is_token, token_count}

-- the scan by these patterns and meanings
abbrev pub scanning_of : List Pattern → List Meaning → Scanning
scanning_of patterns means = record { patterns = patterns; means = means; tokens = token_count means }
