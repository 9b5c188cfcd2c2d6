-- The tokens of segments that stand one after another, and how many tokens and pieces there are.
use Rattle.std.specs.Prelude.{◌≡◌, ℕ, ◌≤◌, List, length}
use Rattle.grammar_data.specs.declared.token.Token.{Token as TextToken}
use Rattle.pattern_data.specs.declared.pattern.Pattern.{Pattern}
use Rattle.lr_base.specs.declared.limits.TheConstants.{TEXT_BYTES}
use Rattle.scanning_theory.specs.declared.limits.TheConstants.{PATTERNS}
use Rattle.scanning_theory.specs.Lines.{line_starts}
use Rattle.scanning_theory.specs.Scan.{Scanning, AreTokens}
use Rattle.token_patterns.specs.Scanner.{IsScannerOf, ranks_of}
use Rattle.line_lexer.specs.Means.{scanning_of}
use Rattle.cutting_theory.specs.Cuttings.{AreTokensOfSegments, IsCutting}
use Rattle.lawful_theory.specs.Lawful.{IsLawful}
use Rattle.part_laws.specs.InAll.{HavePartsInAll}
use Rattle.range_theory.specs.Ranges.{AreTokensOfRange, all_of}
use Rattle.plain_parse.specs.Parses.{AreTextTokens}
use Rattle.segment_counts.specs.declared.job.Job.{Job}
use Rattle.segment_counts.specs.declared.counts.Counts.{Counts}

-- the scan of a job's text by these patterns
abbrev pub scanning_in : Job → List Pattern → Scanning
scanning_in job patterns = scanning_of patterns job.means.now

-- what a job needs: lawful tables, a text that is not too long with its lines, a scanner with a meaning for each rank, and a
-- cutting of the lines; and the text's tokens are of the tables, or bad bytes, and no more than a text may have bytes
pub record CanRun (job : Job) : Type 0 where
  pub lawful : IsLawful job.tables.now
  pub short : length job.text.now ≤ TEXT_BYTES
  pub lines : job.lines.now ≡ line_starts job.text.now
  pub ranks : ranks_of job.scanner.now ≡ length job.means.now
  pub means : length job.means.now ≤ PATTERNS
  pub cutting : IsCutting (length job.lines.now) job.cutting.now
  pub patterns : List Pattern
  pub scanner : IsScannerOf job.scanner.now patterns
  pub tokens : (tokens : List TextToken) → AreTokens (scanning_in job patterns) job.text.now tokens → AreTextTokens job.tables.now tokens
  pub few : (tokens : List TextToken) → AreTokens (scanning_in job patterns) job.text.now tokens → length tokens ≤ TEXT_BYTES

-- so many tokens and pieces have the segments from the first up to `last`
pub record AreCountsTo (job : Job) (last tokens pieces : ℕ) : Type 0 where
  pub lists : List (List TextToken)
  pub are : (patterns : List Pattern) → IsScannerOf job.scanner.now patterns → AreTokensOfRange (scanning_in job patterns) job.text.now job.cutting.now last 0 lists
  pub tokens_are : tokens ≡ length (all_of lists)
  pub pieces_are : HavePartsInAll job.tables.now lists pieces

-- the numbers of all segments: their tokens are these, and have so many parts in all
pub record AreCountsOf (job : Job) (counts : Counts) : Type 0 where
  pub lists : List (List TextToken)
  pub are : (patterns : List Pattern) → IsScannerOf job.scanner.now patterns → AreTokensOfSegments (scanning_in job patterns) job.text.now job.cutting.now lists
  pub tokens : counts.tokens ≡ length (all_of lists)
  pub pieces : HavePartsInAll job.tables.now lists counts.pieces
