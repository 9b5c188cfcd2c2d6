-- What stands behind a text once the line of a token was put there, or why it doesn't.
use Rattle.std.proofs.Common.{◌≡◌, ℕ, ◌<◌, List, ◌++◌, length, ap, ◌∙◌, subst}
use Rattle.lr_base.specs.declared.limits.TheConstants.{TEXT_BYTES}
use Rattle.pattern_data.specs.declared.pattern.Meaning.{Meaning}
use Rattle.scanning_theory.specs.Scan.{Scanning}
use Rattle.token_patterns.specs.Scanner.{Table}
use Rattle.sample_text.specs.declared.fault.SampleFault.{SampleFault}
use Rattle.sample_text.specs.declared.fault.SampleFault.TheVariants.{NoSample, TooLong, NoMemory}
use Rattle.sample_text.specs.Wording.{IsLineFor, IsLonger, IsScannedBy, IsUnwritten, IsWritten}

module _ (table : Table) (means : List Meaning) (a : ℕ) (text line : List ℕ) (is : (scanning : Scanning) → IsScannedBy table means scanning → IsLineFor scanning a line) where
  pub line_written : (new : List ℕ) → new ≡ text ++ line → IsWritten table means a text new
  line_written new same scanning by = let l = is scanning by in (l.0, l.1, same ∙ ap (λ rest. text ++ rest) l.2)

  pub line_unwritten : (fault : SampleFault) → IsLonger text line fault → IsUnwritten table means a text fault
  line_unwritten (NoSample b) longer = absurd longer
  line_unwritten TooLong longer = λ scanning by. let l = is scanning by in (l.0, l.1, subst (λ rest. TEXT_BYTES < length (text ++ rest)) l.2 longer)
  line_unwritten NoMemory longer = tt
