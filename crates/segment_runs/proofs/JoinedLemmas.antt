-- Segments that stand one after another: one alone, and two neighbours that are joined.
use Rattle.std.proofs.Common.{◌≡◌, ℕ, zero, suc, ◌+◌, ◌<◌, ◌≤◌, ◌⊎◌, inl, inr, ⊎_elim, List, [], ◌∷◌, ◌++◌, length, slice_get, Some, sym, ap, ◌∙◌, subst, append-nil, arith}
use Rattle.std.specs.Prelude.{Contains}
use Rattle.std.proofs.lemmas.Grind.{flat_map-append}
use Rattle.std.proofs.lemmas.List.{length-append}
use Rattle.grammar_data.specs.declared.token.Token.{Token as TextToken}
use Rattle.pattern_data.specs.declared.pattern.Pattern.{Pattern}
use Rattle.lr_base.specs.declared.limits.TheConstants.{TEXT_BYTES}
use Rattle.scanning_theory.specs.Scan.{AreTokensOfLines}
use Rattle.token_patterns.specs.Scanner.{IsScannerOf}
use Rattle.collection_data.proofs.EntryLemmas.{get_at}
use Rattle.cutting_theory.specs.Cuttings.{segments_of}
use Rattle.part_theory.specs.Parts.{HasParts}
use Rattle.part_laws.specs.InAll.{no_list, list_first}
use Rattle.table_data.specs.Tables.{Tables}
use Rattle.bare_theory.specs.Bare.{Bare, AreBarePiecesOf}
use Rattle.node_store.specs.Chunks.{AreApart, Chunk, HasChunk, numbers_in, store_of}
use Rattle.piece_lists.specs.Lists.{Stored}
use Rattle.range_theory.specs.Ranges.{AreTokensOfRange, all_of}
use Rattle.range_theory.proofs.RangeLemmas.{bound_within, one_segment, ranges_join, range_lines, in_all_few, in_all_both}
use Rattle.segment_counts.specs.declared.job.Job.{Job}
use Rattle.segment_counts.specs.Ranges.{CanRun, scanning_in}
use Rattle.segment_runs.specs.declared.joined.Joined.{Joined}
use Rattle.segment_runs.specs.Ranges.{IsChunkOf, IsJoined}
use Rattle.segment_runs.proofs.TokenLemmas.{few_tokens}

-- ---- numbers of chunks

-- what is in two lists and a last number is in one of them or that number
contains_three : (xs ys : List ℕ) (last number : ℕ) → Contains {X = ℕ} (xs ++ (ys ++ last ∷ [])) number → Contains {X = ℕ} xs number ⊎ (Contains {X = ℕ} ys number ⊎ (number ≡ last))
contains_three [] [] last number (zero, less, e) = inr (inr (sym e))
contains_three [] [] last number (suc i, less, e) = absurd (omega (arith, less))
contains_three [] (y ∷ ys) last number (zero, less, e) = inr (inl (0, omega arith, e))
contains_three [] (y ∷ ys) last number (suc i, less, e) = ⊎_elim (λ none. absurd (omega (arith, none.1))) (λ found. inr (⊎_elim (λ there. inl (suc there.0, omega (arith, there.1), there.2)) (λ same. inr same) found)) (contains_three [] ys last number (i, omega (arith, less), e))
contains_three (x ∷ xs) ys last number (zero, less, e) = inl (0, omega arith, e)
contains_three (x ∷ xs) ys last number (suc i, less, e) = ⊎_elim (λ there. inl (suc there.0, omega (arith, there.1), there.2)) (λ found. inr found) (contains_three xs ys last number (i, omega (arith, less), e))

contains_one : (only number : ℕ) → Contains {X = ℕ} (only ∷ []) number → number ≡ only
contains_one only number (zero, less, e) = sym e
contains_one only number (suc i, less, e) = absurd (omega (arith, less))

module _ (segments first boundary last : ℕ) (low : first < boundary) (high : boundary < last) (within : last ≤ segments) where
  -- no number is on both sides
  pub not_both : (number : ℕ) → IsChunkOf segments first boundary number → IsChunkOf segments boundary last number → ⊥
  not_both number (inl left) (inl right) = omega (arith, left, right)
  not_both number (inl left) (inr right) = omega (arith, left, right, high, within)
  not_both number (inr left) (inl right) = omega (arith, left, right, high, within)
  not_both number (inr left) (inr right) = omega (arith, left, right)

  -- the boundary's is on neither
  pub not_left : ¬ (IsChunkOf segments first boundary (segments + boundary))
  not_left (inl left) = omega (arith, left, high, within)
  not_left (inr left) = omega (arith, left)

  pub not_right : ¬ (IsChunkOf segments boundary last (segments + boundary))
  not_right (inl right) = omega (arith, right, high, within)
  not_right (inr right) = omega (arith, right)

  chunk_left : (number : ℕ) → IsChunkOf segments first boundary number → IsChunkOf segments first last number
  chunk_left number (inl left) = inl (left.0, omega (arith, left, high))
  chunk_left number (inr left) = inr (left.0, omega (arith, left, high))

  chunk_right : (number : ℕ) → IsChunkOf segments boundary last number → IsChunkOf segments first last number
  chunk_right number (inl right) = inl (omega (arith, right, low), right.1)
  chunk_right number (inr right) = inr (omega (arith, right, low), right.1)

  chunk_new : (number : ℕ) → number ≡ segments + boundary → IsChunkOf segments first last number
  chunk_new number e = inr (omega (arith, e, low), omega (arith, e, high))

-- ---- one segment

pub of_one : (job : Job) (segment from to : ℕ) (tokens : List TextToken) (joined : Joined) → slice_get job.cutting.now segment ≡ Some from → slice_get job.cutting.now (segment + 1) ≡ Some to → ((patterns : List Pattern) → IsScannerOf job.scanner.now patterns → AreTokensOfLines (scanning_in job patterns) job.text.now to from tokens) → AreBarePiecesOf job.tables.now (store_of joined.pieces.store) joined.pieces.closed tokens → joined.tokens ≡ length tokens → HasParts job.tables.now tokens joined.count → numbers_in joined.pieces.store ≡ segment ∷ [] → IsJoined job segment (segment + 1) joined
of_one job segment from to tokens joined low high are pieces count parts chunks = record {
  lists = tokens ∷ [];
  are = λ patterns scanner. one_segment (scanning_in job patterns) job.text.now job.cutting.now segment from to tokens low high (are patterns scanner);
  pieces = subst (AreBarePiecesOf job.tables.now (store_of joined.pieces.store) joined.pieces.closed) (sym (append-nil tokens)) pieces;
  tokens = count ∙ ap length (sym (append-nil tokens));
  count = list_first parts no_list (omega arith);
  chunks = λ number has. let same = contains_one segment number (subst (λ l. Contains {X = ℕ} l number) chunks has) in inl (omega (arith, same), omega (arith, same));
}

-- as its parse gives it
pub of_parsed : (job : Job) (segment from to : ℕ) (found listed : List TextToken) (t : Tables) (closed : List Bare) (store : List Chunk) (made : Stored) (tokens count : ℕ) → slice_get job.cutting.now segment ≡ Some from → slice_get job.cutting.now (segment + 1) ≡ Some to → ((patterns : List Pattern) → IsScannerOf job.scanner.now patterns → AreTokensOfLines (scanning_in job patterns) job.text.now to from found)
    → listed ≡ found → t ≡ job.tables.now → made ≡ record { closed = closed; store = store } → AreBarePiecesOf t (store_of store) closed listed → HasParts t listed (length closed) → numbers_in store ≡ segment ∷ [] → tokens ≡ length found → count ≡ length closed → IsJoined job segment (segment + 1) (record { pieces = made; tokens = tokens; count = count })
of_parsed job segment from to found listed t closed store made tokens count low high are same tables is pieces parts chunk many counted =
    of_one job segment from to found (record { pieces = made; tokens = tokens; count = count }) low high are
    (subst (λ (p : Stored). AreBarePiecesOf job.tables.now (store_of p.store) p.closed found) (sym is) (subst (λ (u : Tables). AreBarePiecesOf u (store_of store) closed found) tables (subst (λ (l : List TextToken). AreBarePiecesOf t (store_of store) closed l) same pieces)))
    many
    (subst (λ (n : ℕ). HasParts job.tables.now found n) (sym counted) (subst (λ (u : Tables). HasParts u found (length closed)) tables (subst (λ (l : List TextToken). HasParts t l (length closed)) same parts)))
    (ap (λ (p : Stored). numbers_in p.store) is ∙ chunk)

-- ---- neighbours

all_both : (lists others : List (List TextToken)) → all_of (lists ++ others) ≡ all_of lists ++ all_of others
all_both lists others = flat_map-append (λ list. list) lists others

module _ (job : Job) (can : CanRun job) where
  -- the tokens of a range are no more than a text may have bytes
  range_few : (first last : ℕ) (lists : List (List TextToken)) → first ≤ last → last ≤ segments_of job.cutting.now → AreTokensOfRange (scanning_in job can.patterns) job.text.now job.cutting.now last first lists → length (all_of lists) ≤ TEXT_BYTES
  range_few first last lists order within are =
      let some = can.cutting.some in
      let from = get_at job.cutting.now first (omega (arith, order, within, some)) in
      let to = get_at job.cutting.now last (omega (arith, within, some)) in
      let behind = bound_within (length job.lines.now) job.cutting.now last to.0 can.cutting to.1 in
      few_tokens job can from.0 to.0 (all_of lists) (subst (λ l. to.0 ≤ length l) can.lines behind) (range_lines (scanning_in job can.patterns) job.text.now job.cutting.now from.0 to.0 are from.1 to.1)

  pub joined_few : (first last : ℕ) (joined : Joined) → first ≤ last → last ≤ segments_of job.cutting.now → IsJoined job first last joined → (joined.tokens ≤ TEXT_BYTES) × (joined.count ≤ TEXT_BYTES)
  joined_few first last joined order within is =
      let few = range_few first last is.lists order within (is.are can.patterns can.scanner) in
      let tokens = is.tokens in
      let count = in_all_few is.count in
      (omega (arith, few, tokens), omega (arith, few, count))

  module _ (first boundary last : ℕ) (left right : Joined) (low : first < boundary) (high : boundary < last) (within : last ≤ segments_of job.cutting.now) (is_left : IsJoined job first boundary left) (is_right : IsJoined job boundary last right) where
    both_are : (patterns : List Pattern) → IsScannerOf job.scanner.now patterns → AreTokensOfRange (scanning_in job patterns) job.text.now job.cutting.now last first (is_left.lists ++ is_right.lists)
    both_are patterns scanner = ranges_join (scanning_in job patterns) job.text.now job.cutting.now last is_right.lists (is_left.are patterns scanner) (is_right.are patterns scanner)

    pub few_both : length (all_of is_left.lists) + length (all_of is_right.lists) ≤ TEXT_BYTES
    few_both =
        let few = range_few first last (is_left.lists ++ is_right.lists) (omega (arith, low, high)) within (both_are can.patterns can.scanner) in
        let size = ap length (all_both is_left.lists is_right.lists) ∙ length-append (all_of is_left.lists) (all_of is_right.lists) in
        omega (arith, few, size)

    pub are_apart : AreApart left.pieces.store right.pieces.store
    are_apart number one two = not_both (segments_of job.cutting.now) first boundary last low high within number (is_left.chunks number one) (is_right.chunks number two)

    pub new_chunk : (¬ (HasChunk left.pieces.store (segments_of job.cutting.now + boundary))) × (¬ (HasChunk right.pieces.store (segments_of job.cutting.now + boundary)))
    new_chunk = (
      λ has. not_left (segments_of job.cutting.now) first boundary last low high within (is_left.chunks (segments_of job.cutting.now + boundary) has),
      λ has. not_right (segments_of job.cutting.now) first boundary last low high within (is_right.chunks (segments_of job.cutting.now + boundary) has),
    )

    pub of_both : (joined : Joined) → AreBarePiecesOf job.tables.now (store_of joined.pieces.store) joined.pieces.closed (all_of is_left.lists ++ all_of is_right.lists) → numbers_in joined.pieces.store ≡ numbers_in left.pieces.store ++ (numbers_in right.pieces.store ++ (segments_of job.cutting.now + boundary) ∷ []) → joined.tokens ≡ left.tokens + right.tokens → joined.count ≡ left.count + right.count → IsJoined job first last joined
    of_both joined pieces chunks tokens count = record {
      lists = is_left.lists ++ is_right.lists;
      are = both_are;
      pieces = subst (AreBarePiecesOf job.tables.now (store_of joined.pieces.store) joined.pieces.closed) (sym (all_both is_left.lists is_right.lists)) pieces;
      tokens = (let size = ap length (all_both is_left.lists is_right.lists) ∙ length-append (all_of is_left.lists) (all_of is_right.lists) in let one = is_left.tokens in let two = is_right.tokens in omega (arith, size, one, two, tokens));
      count = in_all_both is_left.count is_right.count count;
      chunks = λ number has. ⊎_elim
          (λ one. chunk_left (segments_of job.cutting.now) first boundary last low high within number (is_left.chunks number one))
          (λ rest. ⊎_elim
          (λ two. chunk_right (segments_of job.cutting.now) first boundary last low high within number (is_right.chunks number two))
          (λ new. chunk_new (segments_of job.cutting.now) first boundary last low high within number new)
          rest)
          (contains_three (numbers_in left.pieces.store) (numbers_in right.pieces.store) (segments_of job.cutting.now + boundary) number (subst (λ l. Contains {X = ℕ} l number) chunks has));
    }
