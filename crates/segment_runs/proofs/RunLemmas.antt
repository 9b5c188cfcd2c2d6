-- The end of a parse in segments.
use Rattle.std.proofs.Common.{◌≡◌, ℕ, ◌*◌, ◌≤◌, ◌↔◌, inl, inr, List, length, refl, sym, ◌∙◌, subst, arith}
use Rattle.grammar_data.specs.declared.token.Token.{Token as TextToken}
use Rattle.grammar_data.specs.Grammar.{Grammar}
use Rattle.grammar_theory.specs.Derivations.{IsSentence}
use Rattle.grammar_theory.specs.Trees.{ids_of}
use Rattle.pattern_data.specs.declared.pattern.Pattern.{Pattern}
use Rattle.lr_base.specs.declared.limits.TheConstants.{TEXT_BYTES}
use Rattle.scanning_theory.specs.Scan.{AreTokens, AreTokensOfLines}
use Rattle.token_patterns.specs.Scanner.{IsScannerOf}
use Rattle.cutting_theory.specs.Cuttings.{AreTokensOfSegments, segments_of}
use Rattle.cutting_theory.proofs.SegmentLemmas.{segments_join}
use Rattle.table_data.specs.Tables.{Tables}
use Rattle.lawful_theory.specs.Lawful.{IsLawfulFor}
use Rattle.part_laws.specs.InAll.{HavePartsInAll}
use Rattle.bare_theory.specs.Bare.{AreBarePiecesOf}
use Rattle.node_store.specs.Chunks.{Chunk, HasChunk, store_of}
use Rattle.plain_parse.specs.Parses.{AreTextTokens, HasTree}
use Rattle.plain_parse.specs.declared.parsed.Parsed.{Parsed}
use Rattle.plain_parse.specs.declared.parsed.Parsed.TheVariants.{Tree as IsTreeAnswer, Wrong}
use Rattle.stack_finish.specs.Finished.{IsFinished}
use Rattle.range_theory.specs.Ranges.{all_of}
use Rattle.range_theory.proofs.RangeLemmas.{whole_range}
use Rattle.segment_counts.specs.declared.job.Job.{Job}
use Rattle.segment_counts.specs.Ranges.{CanRun, scanning_in}
use Rattle.segment_runs.specs.declared.joined.Joined.{Joined}
use Rattle.segment_runs.specs.declared.run.SegmentRun.{SegmentRun}
use Rattle.segment_runs.specs.Ranges.{IsChunkOf, IsJoined}
use Rattle.segment_runs.specs.Runs.{IsParsedIn, IsRunOf}

-- a finished tree without what is known of the pieces
parsed_in : (g : Grammar) (t : Tables) (tokens : List TextToken) (before : List Chunk) (chunk : ℕ) (parsed : Parsed) → IsFinished g t tokens before chunk parsed → IsParsedIn g t tokens parsed
parsed_in g t tokens before chunk (IsTreeAnswer root store) is = record {
  tree = is.tree;
  shown = is.shown;
  is_tree = is.is_tree;
  yields = is.yields;
  steps = is.steps;
  walk = is.walk;
  each_once = is.each_once;
}
parsed_in g t tokens before chunk (Wrong index token state) is = is

module _ (job : Job) (can : CanRun job) (joined : Joined) (is : IsJoined job 0 (segments_of job.cutting.now) joined) where
  segments_are : (patterns : List Pattern) → IsScannerOf job.scanner.now patterns → AreTokensOfSegments (scanning_in job patterns) job.text.now job.cutting.now is.lists
  segments_are patterns scanner = whole_range (scanning_in job patterns) job.text.now job.cutting.now (segments_of job.cutting.now) is.lists refl (is.are patterns scanner)

  -- the tokens are the text's
  text_tokens : AreTokens (scanning_in job can.patterns) job.text.now (all_of is.lists)
  text_tokens = subst (λ l. AreTokensOfLines (scanning_in job can.patterns) job.text.now (length l) 0 (all_of is.lists)) can.lines
      (segments_join (scanning_in job can.patterns) job.text.now (length job.lines.now) job.cutting.now is.lists can.cutting (segments_are can.patterns can.scanner))

  pub can_finish : (tokens : List TextToken) × (length tokens ≤ TEXT_BYTES) × AreTextTokens job.tables.now tokens × AreBarePiecesOf job.tables.now (store_of joined.pieces.store) joined.pieces.closed tokens
  can_finish = (all_of is.lists, can.few (all_of is.lists) text_tokens, can.tokens (all_of is.lists) text_tokens, is.pieces)

  pub last_chunk : (chunk : ℕ) → chunk ≡ 2 * segments_of job.cutting.now → ¬ (HasChunk joined.pieces.store chunk)
  last_chunk chunk e has = neither (is.chunks chunk has)
    where
      neither : IsChunkOf (segments_of job.cutting.now) 0 (segments_of job.cutting.now) chunk → ⊥
      neither (inl segment) = let some = can.cutting.some in omega (arith, segment, e, some)
      neither (inr boundary) = omega (arith, boundary, e)

  pub run_of : (chunk : ℕ) (run : SegmentRun) → ((g : Grammar) (tokens : List TextToken) → IsLawfulFor g job.tables.now → AreBarePiecesOf job.tables.now (store_of joined.pieces.store) joined.pieces.closed tokens → IsFinished g job.tables.now tokens joined.pieces.store chunk run.parsed) → ((g : Grammar) (tokens : List TextToken) → IsLawfulFor g job.tables.now → AreBarePiecesOf job.tables.now (store_of joined.pieces.store) joined.pieces.closed tokens → HasTree run.parsed ↔ IsSentence g (ids_of tokens)) → run.tokens ≡ joined.tokens → run.pieces ≡ joined.count → IsRunOf job run
  run_of chunk run finished tree tokens pieces = record {
    lists = is.lists;
    are = segments_are;
    parsed = λ g lawful. parsed_in g job.tables.now (all_of is.lists) joined.pieces.store chunk run.parsed (finished g (all_of is.lists) lawful is.pieces);
    tree = λ g lawful. tree g (all_of is.lists) lawful is.pieces;
    tokens = tokens ∙ is.tokens;
    pieces = subst (HavePartsInAll job.tables.now is.lists) (sym pieces) is.count;
  }
