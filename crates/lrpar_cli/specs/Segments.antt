-- The parse of a text in segments, by a sheet whose grammar has tables: what one parse of all its tokens comes to, but for the
-- places of the nodes; and the numbers of its report that this parse counts.
use Rattle.std.specs.Prelude.{◌≡◌, ℕ, ◌≤◌, List, length}
use Rattle.grammar_data.specs.declared.token.Token.{Token as TextToken}
use Rattle.scanning_theory.specs.Scan.{AreTokens}
use Rattle.sheet_data.specs.Sheet.{Sheet}
use Rattle.sheet_theory.specs.ScanOrder.{scanning_of}
use Rattle.table_data.specs.Tables.{Tables}
use Rattle.tally_theory.specs.declared.cut.Cut.{Cut}
use Rattle.tally_theory.specs.Reports.{HasPieces}
use Rattle.segment_runs.specs.Runs.{IsParsedIn}
use Rattle.lrpar_cli.specs.declared.segments.Counts.{Counts}
use Rattle.lrpar_cli.specs.declared.segments.TextRun.{TextRun}

-- so many segments, one at least, tokens and pieces a text has that is cut so
pub record AreCountsOf (sheet : Sheet) (text : List ℕ) (cut : Cut) (counts : Counts) : Type 0 where
  pub some : 1 ≤ counts.segments
  pub tokens : (tokens : List TextToken) → AreTokens (scanning_of sheet) text tokens → counts.tokens ≡ length tokens
  pub pieces : HasPieces sheet text cut counts.segments counts.pieces

-- what the parse of the text's tokens comes to by these tables, and its numbers
pub record IsTextRun (sheet : Sheet) (text : List ℕ) (cut : Cut) (tables : Tables) (run : TextRun) : Type 0 where
  pub tokens : List TextToken
  pub are : AreTokens (scanning_of sheet) text tokens
  pub parsed : IsParsedIn sheet.grammar tables tokens run.parsed
  pub counts : AreCountsOf sheet text cut run.counts
