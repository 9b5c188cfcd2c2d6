-- Pieces whose chunks have numbers in a range, and tokens in two parts.
use Rattle.std.proofs.Common.{◌≡◌, ℕ, zero, suc, ◌+◌, ◌<◌, ◌≤◌, ◌⊎◌, inl, inr, List, [], ◌∷◌, ◌++◌, length, length-take, take, drop, ◌-◌, ◌^◌, Contains, slice_range, refl, sym, ap, ◌∙◌, subst, append-nil, arith}
use Rattle.std.specs.Prelude.{min}
use Rattle.std.proofs.Math.ListN.{drop_of_length-le}
use Rattle.std.proofs.lemmas.List.{length-append, take-append-drop}
use Rattle.std.proofs.lemmas.List.Elements.{All-drop, All-take, Contains-append_cases}
use Rattle.std.proofs.lemmas.List.Folds.{drop_split}
use Rattle.grammar_data.specs.declared.token.Token.{Token}
use Rattle.grammar_data.specs.Grammar.{Grammar}
use Rattle.tree_theory.specs.Stores.{Store}
use Rattle.lr_base.specs.declared.limits.TheConstants.{TEXT_BYTES}
use Rattle.table_data.specs.Tables.{Tables}
use Rattle.lawful_theory.specs.Lawful.{IsLawful, IsLawfulFor}
use Rattle.lawful_theory.proofs.CanonicalLemmas.{lawful_law}
use Rattle.lr_machine.specs.IsTables.{IsTables}
use Rattle.bare_theory.specs.Bare.{AreBarePiecesOf}
use Rattle.node_store.specs.Chunks.{AreApart, HasChunk, numbers_in, store_of}
use Rattle.piece_lists.specs.Lists.{Stored}
use Rattle.plain_parse.specs.declared.parsed.Parsed.{Parsed}
use Rattle.plain_parse.specs.declared.parsed.Parsed.TheVariants.{Tree, Wrong}
use Rattle.plain_parse.specs.Parses.{AreTextTokens, IsParsed}
use Rattle.stack_finish.specs.Finished.{IsAnswer}
use Rattle.join_rows.specs.Rows.{AreNumbered, HasPieces, IsWalkable}

-- one number is in a list of it alone
one_number : (numbers : List ℕ) (chunk n : ℕ) → numbers ≡ chunk ∷ [] → Contains {X = ℕ} numbers n → n ≡ chunk
one_number numbers chunk n is has = by (subst (λ l. Contains {X = ℕ} l n) is has)
  where
    by : Contains {X = ℕ} (chunk ∷ []) n → n ≡ chunk
    by (zero, inside, at) = sym at
    by (suc k, inside, at) = absurd (omega (arith, inside))

-- pieces of a segment
pub of_segment : (t : Tables) (pieces : Stored) (tokens : List Token) (chunk : ℕ) → numbers_in pieces.store ≡ chunk ∷ [] → AreBarePiecesOf t (store_of pieces.store) pieces.closed tokens → HasPieces t pieces tokens chunk (chunk + 1)
of_segment t pieces tokens chunk is are = record {
  are = are;
  numbers = λ n has. (let same = one_number (numbers_in pieces.store) chunk n is has in (omega (arith, same), omega (arith, same)));
}

-- numbers in a wider range
pub wider : {t : Tables} {pieces : Stored} {tokens : List Token} {from next : ℕ} (low high : ℕ) → low ≤ from → next ≤ high → HasPieces t pieces tokens from next → HasPieces t pieces tokens low high
wider low high below above has = record {
  are = has.are;
  numbers = λ n there. (let in_range = has.numbers n there in (omega (arith, below, in_range), omega (arith, above, in_range)));
}

-- numbers in ranges one after the other
pub apart : {t : Tables} {left right : Stored} {tokens more : List Token} {from middle next : ℕ} → HasPieces t left tokens from middle → HasPieces t right more middle next → AreApart left.store right.store
apart has also n there too = let one = has.numbers n there in let other = also.numbers n too in absurd (omega (arith, one, other))

-- a greater number is new
pub new_number : {t : Tables} {pieces : Stored} {tokens : List Token} {from next : ℕ} → HasPieces t pieces tokens from next → HasChunk pieces.store next → ⊥
new_number {next = next} has there = let one = has.numbers next there in omega (arith, one)

-- joined pieces
pub of_join : (t : Tables) (left right joined : Stored) (tokens more : List Token) (from chunk : ℕ) → numbers_in joined.store ≡ numbers_in left.store ++ (numbers_in right.store ++ chunk ∷ []) → AreBarePiecesOf t (store_of joined.store) joined.closed (tokens ++ more) → from ≤ chunk → HasPieces t left tokens from chunk → HasPieces t right more from chunk → HasPieces t joined (tokens ++ more) from (chunk + 1)
of_join t left right joined tokens more from chunk numbers are below has also = record {
  are = are;
  numbers = λ n there. by n (Contains-append_cases (numbers_in left.store) (numbers_in right.store ++ chunk ∷ []) n (subst (λ l. Contains {X = ℕ} l n) numbers there));
}
  where
    last : (n : ℕ) → Contains {X = ℕ} (numbers_in right.store) n ⊎ Contains {X = ℕ} (chunk ∷ []) n → (from ≤ n) × (n < chunk + 1)
    last n (inl there) = let one = also.numbers n there in (omega (arith, one), omega (arith, one))
    last n (inr there) = let one = one_number (chunk ∷ []) chunk n refl there in (omega (arith, one, below), omega (arith, one))

    by : (n : ℕ) → Contains {X = ℕ} (numbers_in left.store) n ⊎ Contains {X = ℕ} (numbers_in right.store ++ chunk ∷ []) n → (from ≤ n) × (n < chunk + 1)
    by n (inl there) = let one = has.numbers n there in (omega (arith, one), omega (arith, one))
    by n (inr there) = last n (Contains-append_cases (numbers_in right.store) (chunk ∷ []) n there)

-- tokens in two parts
pub two_parts : {X : Type 0} (xs : List X) (place : ℕ) → place ≤ length xs → take place xs ++ slice_range xs place (length xs) ≡ xs
two_parts xs place below =
    let none = drop_of_length-le xs {i = length xs} (omega arith) in
    let behind = drop_split xs place (length xs) below ∙ ap (λ l. slice_range xs place (length xs) ++ l) none ∙ append-nil (slice_range xs place (length xs)) in
    ap (λ l. take place xs ++ l) (sym behind) ∙ take-append-drop place xs

-- the second part is shorter
pub part_shorter : {X : Type 0} (xs : List X) (place : ℕ) → 0 < place → place < length xs → length (slice_range xs place (length xs)) < length xs
part_shorter xs place some inside =
    let long : length (slice_range xs place (length xs)) ≡ min (length xs - place) (length (drop place xs)) = length-take (length xs - place) (drop place xs) in
    omega (arith, long, some, inside)

-- and its tokens have numbers as all have
pub part_numbers : (tokens : List Token) (place : ℕ) → AreNumbered tokens → AreNumbered (slice_range tokens place (length tokens))
part_numbers tokens place all = All-take (λ (token : Token). token.id < 2 ^ 32 - 2) (length tokens - place) (drop place tokens) (All-drop (λ (token : Token). token.id < 2 ^ 32 - 2) place tokens all)

-- no token, and then all
pub no_part : {X : Type 0} (xs : List X) → slice_range xs 0 0 ++ xs ≡ xs
no_part xs = sym (drop_split xs 0 0 (omega arith))

-- ---- two lists side by side

-- pieces of tokens and of those behind them, with chunks whose numbers are apart
pub record AreBeside (t : Tables) (left right : Stored) (first second : List Token) (from last : ℕ) : Type 0 where
  pub middle : ℕ
  pub above : from ≤ middle
  pub below : middle ≤ last
  pub has : HasPieces t left first from middle
  pub also : HasPieces t right second middle last

pub beside : (t : Tables) {t1 t2 : Tables} → t1 ≡ t → t2 ≡ t1 → {left right : Stored} {first second : List Token} {from a middle b : ℕ} (last : ℕ) → from ≤ middle → a ≤ middle → middle ≤ last → b ≤ last → HasPieces t left first from a → HasPieces t1 right second middle b → AreBeside t2 left right first second from last
beside t {t1} {t2} one two {left} {right} {first} {second} {from} {a} {middle} {b} last above low below high has also = record {
  middle = middle;
  above = above;
  below = below;
  has = subst (λ x. HasPieces x left first from middle) (sym one ∙ sym two) (wider {pieces = left} {tokens = first} {from = from} {next = a} from middle (omega arith) low has);
  also = subst (λ x. HasPieces x right second middle last) (sym two) (wider {pieces = right} {tokens = second} {from = middle} {next = b} middle last (omega arith) high also);
}

module _ {t : Tables} {left right : Stored} {first second : List Token} {from last : ℕ} (are : AreBeside t left right first second from last) where
  on_left : HasPieces t left first from last
  on_left = wider {pieces = left} {tokens = first} {from = from} {next = are.middle} from last (omega arith) are.below are.has

  on_right : HasPieces t right second from last
  on_right = wider {pieces = right} {tokens = second} {from = are.middle} {next = last} from last are.above (omega arith) are.also

  pub are_apart : AreApart left.store right.store
  are_apart = apart are.has are.also

  pub sides : (tokens : List Token) → first ++ second ≡ tokens → length tokens ≤ TEXT_BYTES → (tokens : List Token) × (more : List Token) × (from : ℕ) × (length tokens + length more ≤ TEXT_BYTES) × HasPieces t left tokens from last × HasPieces t right more from last
  sides tokens same few = (first, second, from, (let long = ap length same in omega (arith, long, few, length-append first second)), on_left, on_right)

  -- and when they are joined
  pub whole : (base : Tables) → t ≡ base → (tokens : List Token) (next : ℕ) {joined : Stored} → first ++ second ≡ tokens → next ≡ last + 1 → ((tokens more : List Token) (from : ℕ) → HasPieces t left tokens from last → HasPieces t right more from last → from ≤ last → HasPieces t joined (tokens ++ more) from (last + 1)) → HasPieces base joined tokens from next
  whole base same_tables tokens next {joined} same up is =
      let low : from ≤ last = (let above = are.above in let below = are.below in omega (arith, above, below)) in
      let here : HasPieces t joined tokens from (last + 1) = subst (λ l. HasPieces t joined l from (last + 1)) same (is first second from on_left on_right low) in
      subst (λ x. HasPieces x joined tokens from next) same_tables (subst (λ n. HasPieces t joined tokens from n) (sym up) here)

-- what a parse from left to right gives can be walked over
pub walkable : (g : Grammar) (t : Tables) (tokens : List Token) (parsed : Parsed) → IsParsed g t tokens parsed → IsWalkable parsed
walkable g t tokens (Tree root store) is = ((0, 0), 0, is.tree, is.shown (0, 0) 0)
walkable g t tokens (Wrong index token state) is = tt

-- and what comes of pieces
pub walkable_end : (g : Grammar) (t : Tables) (tokens : List Token) (base : Store) (numbers : List ℕ) (parsed : Parsed) → IsAnswer g t tokens base numbers parsed → IsWalkable parsed
walkable_end g t tokens base numbers (Tree root store) is = ((0, 0), 0, is.tree, is.shown (0, 0) 0)
walkable_end g t tokens base numbers (Wrong index token state) is = tt

-- tables of a grammar are lawful, and a table of maps that stands on them
pub lawful_maps : (g : Grammar) (t x : Tables) → IsLawfulFor g t → x ≡ t → IsLawful x
lawful_maps g t x lawful same = subst IsLawful (sym same) (lawful_law g t lawful)

-- the tokens of a text have numbers that fit a kid
pub text_numbers : (t : Tables) (tokens : List Token) → IsTables t → AreTextTokens t tokens → AreNumbered tokens
text_numbers t tokens is are k d inside = let one = are k d inside in let few = is.few_tokens in omega (arith, one, few)
