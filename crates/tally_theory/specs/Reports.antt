-- The report of a run over a text that is cut into segments. Its numbers are those of the segments, of the joins that make
-- one piece of the text of them, of the text's tokens, of the parts of each segment's tokens by the canonical tables of the
-- sheet's grammar, all added up, and of the inner nodes of the text's only tree. For a text that is no sentence nothing is
-- reported: its diagnostic is said, which reads no cutting.
use Rattle.std.specs.Prelude.{◌≡◌, ℕ, ◌-◌, List, [], ◌∷◌, ◌++◌, length, codes}
use Rattle.std.specs.Fmt.{decimal}
use Rattle.grammar_data.specs.declared.token.Token.{Token as TextToken}
use Rattle.grammar_theory.specs.Trees.{Tree, yield, nodes}
use Rattle.scanning_theory.specs.Lines.{line_feed, line_starts}
use Rattle.scanning_theory.specs.Scan.{AreTokens}
use Rattle.cutting_theory.specs.Cuttings.{AreTokensOfSegments, segments_of}
use Rattle.sheet_data.specs.Sheet.{Sheet}
use Rattle.sheet_theory.specs.ScanOrder.{scanning_of}
use Rattle.collection_data.specs.Collection.{CollectionParts}
use Rattle.table_data.specs.Tables.{Tables}
use Rattle.part_laws.specs.InAll.{HavePartsInAll}
use Rattle.grammar_faults.specs.Building.{AreBuiltOf}
use Rattle.translation_theory.specs.Diagnostics.{IsDiagnostic}
use Rattle.run_theory.specs.RunAnswers.{Outcome, Given, Refused, IsTreeOf}
use Rattle.tally_theory.specs.declared.cut.Cut.{Cut}
use Rattle.tally_theory.specs.Cuts.{HasBounds}

-- how many segments, tokens, pieces and nodes there are
pub record Tally : Type 0 where
  pub segments : ℕ
  pub tokens : ℕ
  pub pieces : ℕ
  pub nodes : ℕ

-- a line of a report: a word and a number
abbrev pub number_line : List ℕ → ℕ → List ℕ
number_line word number = word ++ (32 ∷ (decimal number ++ (line_feed ∷ [])))

-- the five lines of a report; one join fewer is needed than there are segments
abbrev pub report_text : Tally → List ℕ
report_text tally =
    number_line (codes "segments") tally.segments
    ++ (number_line (codes "joins") (tally.segments - 1)
    ++ (number_line (codes "tokens") tally.tokens
    ++ (number_line (codes "pieces") tally.pieces
    ++ number_line (codes "nodes") tally.nodes)))

-- the segments of a text that is cut so have so many pieces in all, there being so many of them
pub record HasPieces (sheet : Sheet) (text : List ℕ) (cut : Cut) (segments pieces : ℕ) : Type 0 where
  pub bounds : List ℕ
  pub cuts : HasBounds cut (length (line_starts text)) bounds
  pub segments_are : segments ≡ segments_of bounds
  pub lists : List (List TextToken)
  pub tokens : AreTokensOfSegments (scanning_of sheet) text bounds lists
  pub collection : CollectionParts
  pub tables : Tables
  pub built : AreBuiltOf sheet.grammar collection tables
  pub have : HavePartsInAll tables lists pieces

-- the tally of a tree of a text that is cut so
pub record IsTallyOf (sheet : Sheet) (text : List ℕ) (cut : Cut) (tree : Tree) (tally : Tally) : Type 0 where
  pub pieces : HasPieces sheet text cut tally.segments tally.pieces
  pub tokens : tally.tokens ≡ length (yield tree)
  pub nodes_are : tally.nodes ≡ nodes tree

pub data IsReportAnswer (sheet : Sheet) (text : List ℕ) (cut : Cut) : Outcome → Type 0 where
  tally_given : {tree : Tree} {tally : Tally} {out : List ℕ} → IsTreeOf sheet text tree → IsTallyOf sheet text cut tree tally → out ≡ report_text tally → IsReportAnswer sheet text cut (Given out)
  text_refused : {tokens : List TextToken} {said : List ℕ} → AreTokens (scanning_of sheet) text tokens → IsDiagnostic sheet text tokens said → IsReportAnswer sheet text cut (Refused said)
