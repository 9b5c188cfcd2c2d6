-- Segments that are counted one after another.
use Rattle.std.proofs.Common.{◌≡◌, ℕ, ◌+◌, ◌≤◌, List, [], ◌∷◌, ◌++◌, length, slice_get, Some, refl, ap, ◌∙◌, subst, arith, append-nil}
use Rattle.std.proofs.lemmas.Grind.{flat_map-append}
use Rattle.std.proofs.lemmas.List.{length-append}
use Rattle.grammar_data.specs.declared.token.Token.{Token as TextToken}
use Rattle.pattern_data.specs.declared.pattern.Pattern.{Pattern}
use Rattle.lr_base.specs.declared.limits.TheConstants.{TEXT_BYTES}
use Rattle.scanning_theory.specs.Scan.{AreTokensOfLines}
use Rattle.token_patterns.specs.Scanner.{IsScannerOf}
use Rattle.collection_data.proofs.EntryLemmas.{get_at}
use Rattle.cutting_theory.specs.Cuttings.{segments_of}
use Rattle.part_theory.specs.Parts.{HasParts}
use Rattle.part_laws.specs.InAll.{no_list, list_first}
use Rattle.segment_counts.specs.declared.job.Job.{Job}
use Rattle.segment_counts.specs.declared.counts.Counts.{Counts}
use Rattle.range_theory.specs.Ranges.{no_segment, all_of}
use Rattle.segment_counts.specs.Ranges.{CanRun, scanning_in, AreCountsTo, AreCountsOf}
use Rattle.range_theory.proofs.RangeLemmas.{bound_within, one_segment, ranges_join, range_lines, in_all_few, in_all_both, whole_range}
use Rattle.segment_counts.proofs.TokenLemmas.{few_tokens}

-- none is counted
pub none_counted : (job : Job) → AreCountsTo job 0 0 0
none_counted job = record { lists = []; are = λ patterns scanner. no_segment refl; tokens_are = refl; pieces_are = no_list }

all_both : (lists others : List (List TextToken)) → all_of (lists ++ others) ≡ all_of lists ++ all_of others
all_both lists others = flat_map-append (λ list. list) lists others

module _ (job : Job) (segment tokens_to pieces_to : ℕ) (is : AreCountsTo job segment tokens_to pieces_to) (from to : ℕ) (found : List TextToken) (low : slice_get job.cutting.now segment ≡ Some from) (high : slice_get job.cutting.now (segment + 1) ≡ Some to) (are : (patterns : List Pattern) → IsScannerOf job.scanner.now patterns → AreTokensOfLines (scanning_in job patterns) job.text.now to from found) (pieces : ℕ) (parts : HasParts job.tables.now found pieces) where
  -- one more
  pub one_more : (tokens all_pieces : ℕ) → tokens ≡ tokens_to + length found → all_pieces ≡ pieces_to + pieces → AreCountsTo job (segment + 1) tokens all_pieces
  one_more tokens all_pieces counted added = record {
    lists = is.lists ++ found ∷ [];
    are = λ patterns scanner. ranges_join (scanning_in job patterns) job.text.now job.cutting.now (segment + 1) (found ∷ []) (is.are patterns scanner) (one_segment (scanning_in job patterns) job.text.now job.cutting.now segment from to found low high (are patterns scanner));
    tokens_are =
        (let size = ap length (all_both is.lists (found ∷ [])) ∙ length-append (all_of is.lists) (all_of (found ∷ [])) in
        let last = ap length (append-nil found) in
        let sum = is.tokens_are in
        omega (arith, size, last, sum, counted));
    pieces_are = in_all_both is.pieces_are (list_first parts no_list (omega arith)) added;
  }

-- there are no more of them than a text may have bytes
pub few_counted : (job : Job) (can : CanRun job) (last tokens pieces : ℕ) → last ≤ segments_of job.cutting.now → AreCountsTo job last tokens pieces → (tokens ≤ TEXT_BYTES) × (pieces ≤ TEXT_BYTES)
few_counted job can last tokens pieces within is =
    let some = can.cutting.some in
    let to = get_at job.cutting.now last (omega (arith, within, some)) in
    let behind = bound_within (length job.lines.now) job.cutting.now last to.0 can.cutting to.1 in
    let few = few_tokens job can 0 to.0 (all_of is.lists) (subst (λ l. to.0 ≤ length l) can.lines behind) (range_lines (scanning_in job can.patterns) job.text.now job.cutting.now 0 to.0 (is.are can.patterns can.scanner) can.cutting.begins to.1) in
    let counted = is.tokens_are in
    let parts = in_all_few is.pieces_are in
    (omega (arith, few, counted), omega (arith, few, parts))

-- all are counted
pub all_counted : (job : Job) (counts : Counts) → AreCountsTo job (segments_of job.cutting.now) counts.tokens counts.pieces → AreCountsOf job counts
all_counted job counts is = record {
  lists = is.lists;
  are = λ patterns scanner. whole_range (scanning_in job patterns) job.text.now job.cutting.now (segments_of job.cutting.now) is.lists refl (is.are patterns scanner);
  tokens = is.tokens_are;
  pieces = is.pieces_are;
}
