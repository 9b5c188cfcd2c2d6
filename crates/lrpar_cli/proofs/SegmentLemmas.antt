-- The parse of a text in segments.
use Rattle.std.proofs.Common.{◌≡◌, ℕ, ◌≤◌, List, length, sym, ap, subst, ◌∙◌, arith}
use Rattle.lr_base.specs.declared.limits.TheConstants.{TEXT_BYTES}
use Rattle.scanning_theory.specs.declared.limits.TheConstants.{PATTERNS}
use Rattle.scanning_theory.specs.Lines.{line_starts}
use Rattle.scanning_theory.specs.Scan.{AreTokens, AreTokensOfLines, token_count}
use Rattle.scanning_theory.proofs.ScanLemmas.{lines_once}
use Rattle.token_patterns.specs.Scanner.{IsScannerOf, ranks_of}
use Rattle.sheet_theory.specs.ScanOrder.{scanning_of}
use Rattle.collection_data.specs.Collection.{CollectionParts}
use Rattle.lawful_theory.specs.Lawful.{IsLawfulFor}
use Rattle.lawful_theory.proofs.CanonicalLemmas.{lawful_law}
use Rattle.cutting_theory.specs.Cuttings.{IsCutting, AreTokensOfSegments, segments_of}
use Rattle.cutting_theory.proofs.SegmentLemmas.{segments_join}
use Rattle.part_laws.specs.InAll.{HavePartsInAll}
use Rattle.grammar_faults.specs.Building.{AreBuiltOf}
use Rattle.translation_theory.proofs.TokenLemmas.{in_text}
use Rattle.run_theory.specs.SheetTokens.{CountsTokens}
use Rattle.tally_theory.specs.declared.cut.Cut.{Cut}
use Rattle.tally_theory.specs.Cuts.{CanBeCut, HasBounds}
use Rattle.tally_theory.proofs.CutLemmas.{cutting}
use Rattle.segment_counts.specs.declared.job.Job.{Job}
use Rattle.segment_counts.specs.Ranges.{CanRun, scanning_in}
use Rattle.range_theory.specs.Ranges.{all_of}
use Rattle.segment_runs.specs.declared.run.SegmentRun.{SegmentRun}
use Rattle.segment_runs.specs.Runs.{IsParsedIn, IsRunOf}
use Rattle.lrpar_cli.specs.declared.inputs.Scanned.{Scanned}
use Rattle.lrpar_cli.specs.declared.segments.TextRun.{TextRun}
use Rattle.lrpar_cli.specs.Inputs.{IsReady}
use Rattle.lrpar_cli.specs.Segments.{IsTextRun}
use Rattle.lrpar_cli.proofs.TranslatingLemmas.{text_tokens}

module _ (scanned : Scanned) (job : Job) (ready : IsReady scanned) (lawful : IsLawfulFor scanned.sheet.grammar job.tables.now) (counted : CountsTokens scanned.sheet) (scanner : job.scanner.now ≡ scanned.scanner) (means : job.means.now ≡ scanned.means.items) (short : length job.text.now ≤ TEXT_BYTES) (lines : job.lines.now ≡ line_starts job.text.now) where
  -- the scan of the job's text is that of the sheet
  same_scan : scanning_in job (scanning_of scanned.sheet).patterns ≡ scanning_of scanned.sheet
  same_scan =
      let words = means ∙ ready.means in
      let tokens = ap token_count means ∙ ready.tokens in
      λ i. record { patterns = (scanning_of scanned.sheet).patterns; means = words i; tokens = tokens i }

  job_scanner : IsScannerOf job.scanner.now (scanning_of scanned.sheet).patterns
  job_scanner = subst (λ s. IsScannerOf s (scanning_of scanned.sheet).patterns) (sym scanner) ready.scanner

  module _ (is_cutting : IsCutting (length job.lines.now) job.cutting.now) where
    pub can_run : CanRun job
    can_run = record {
      lawful = lawful_law scanned.sheet.grammar job.tables.now lawful;
      short = short;
      lines = lines;
      ranks = ap ranks_of scanner ∙ ready.ranks ∙ ap length (sym means);
      means = subst (λ m. length m ≤ PATTERNS) (sym means) ready.few;
      cutting = is_cutting;
      patterns = (scanning_of scanned.sheet).patterns;
      scanner = job_scanner;
      tokens = λ tokens are. text_tokens scanned.sheet job.tables.now job.text.now tokens lawful.tokens counted (subst (λ s. AreTokens s job.text.now tokens) same_scan are);
      few = λ tokens are. let within = in_text (scanning_in job (scanning_of scanned.sheet).patterns) job.text.now tokens are in let few = within.few in omega (arith, few, short);
    }

    module _ (run : SegmentRun) (is : IsRunOf job run) (cut : Cut) (bounds : HasBounds cut (length job.lines.now) job.cutting.now) (collection : CollectionParts) (built : AreBuiltOf scanned.sheet.grammar collection job.tables.now) where
      segments_are : AreTokensOfSegments (scanning_of scanned.sheet) job.text.now job.cutting.now is.lists
      segments_are = subst (λ s. AreTokensOfSegments s job.text.now job.cutting.now is.lists) same_scan (is.are (scanning_of scanned.sheet).patterns job_scanner)

      all_tokens : AreTokens (scanning_of scanned.sheet) job.text.now (all_of is.lists)
      all_tokens = subst (λ l. AreTokensOfLines (scanning_of scanned.sheet) job.text.now (length l) 0 (all_of is.lists)) lines
          (segments_join (scanning_of scanned.sheet) job.text.now (length job.lines.now) job.cutting.now is.lists is_cutting segments_are)

      -- the run of the job is one of the text
      pub text_run : (found : TextRun) → found.parsed ≡ run.parsed → found.counts.segments ≡ segments_of job.cutting.now → found.counts.tokens ≡ run.tokens → found.counts.pieces ≡ run.pieces → IsTextRun scanned.sheet job.text.now cut job.tables.now found
      text_run found parsed segments tokens pieces = record {
        tokens = all_of is.lists;
        are = all_tokens;
        parsed = subst (IsParsedIn scanned.sheet.grammar job.tables.now (all_of is.lists)) (sym parsed) (is.parsed scanned.sheet.grammar lawful);
        counts = record {
          some = subst (λ n. 1 ≤ n) (sym segments) is_cutting.some;
          tokens = λ others are. tokens ∙ is.tokens ∙ ap length (lines_once (scanning_of scanned.sheet) job.text.now all_tokens others are);
          pieces = record {
            bounds = job.cutting.now;
            cuts = subst (λ l. HasBounds cut (length l) job.cutting.now) lines bounds;
            segments_are = segments;
            lists = is.lists;
            tokens = segments_are;
            collection = collection;
            tables = job.tables.now;
            built = built;
            have = subst (HavePartsInAll job.tables.now is.lists) (sym pieces) is.pieces;
          };
        };
      }

-- the lines of a text, cut so, are a cutting
pub is_cut : (cut : Cut) (lines bounds : List ℕ) → CanBeCut cut → HasBounds cut (length lines) bounds → IsCutting (length lines) bounds
is_cut cut lines bounds can has = cutting cut (length lines) bounds can has
