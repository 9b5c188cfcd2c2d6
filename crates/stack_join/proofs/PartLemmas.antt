-- The pieces of parts, one after the other.
use Rattle.std.proofs.Common.{◌≡◌, ℕ, suc, ◌+◌, ◌<◌, ◌≤◌, List, [], ◌∷◌, ◌++◌, length, set, take, drop, get_or, refl, sym, ap, ◌∙◌, append_assoc, append-nil, arith}
use Rattle.std.proofs.Math.Seq.{drop-cons}
use Rattle.std.proofs.Math.ListN.{drop_of_length-le}
use Rattle.std.proofs.lemmas.List.{length-drop, set_split, take-append-drop, take_more, take_more_set}
use Rattle.grammar_data.specs.declared.token.Token.{Token as TextToken}
use Rattle.node_data.specs.declared.kid.Kid.{Kid}
use Rattle.piece_theory.specs.Pieces.{Floor, Piece}
use Rattle.bare_theory.specs.Bare.{Bare, bare, bares}
use Rattle.piece_blocks.specs.Blocks.{no_piece, piece_at}
use Rattle.piece_lists.specs.declared.part.Part.{Part}
use Rattle.piece_lists.specs.Lists.{pieces_of, pieces_in}

tail_of : {X : Type 0} {x y : X} {xs ys : List X} → x ∷ xs ≡ y ∷ ys → xs ≡ ys
tail_of e = cc

head_of : {X : Type 0} {x y : X} {xs ys : List X} → x ∷ xs ≡ y ∷ ys → x ≡ y
head_of e = cc

pub one_more : (n : ℕ) → suc n ≡ n + 1
one_more n = omega arith

-- the next item of a list
pub next_item : {X : Type 0} (xs : List X) (i : ℕ) (x : X) → i < length xs → x ≡ get_or xs i x → drop i xs ≡ x ∷ drop (i + 1) xs
next_item xs i x inside is = drop-cons xs i x inside ∙ (λ k. sym is k ∷ drop (one_more i k) xs)

-- pieces in two parts
pub record AreTwo (ps : List Piece) (xs ys : List Bare) : Type 0 where
  pub first : List Piece
  pub rest : List Piece
  pub parts : ps ≡ first ++ rest
  pub of_first : bares first ≡ xs
  pub of_rest : bares rest ≡ ys

pub bares_split : (ps : List Piece) (xs ys : List Bare) → bares ps ≡ xs ++ ys → AreTwo ps xs ys
bares_split ps [] ys e = record { first = []; rest = ps; parts = refl; of_first = refl; of_rest = e }
bares_split [] (x ∷ xs) ys e = absurd (cc)
bares_split (p ∷ ps) (x ∷ xs) ys e =
    let more = bares_split ps xs ys (tail_of e) in
    record {
      first = p ∷ more.first;
      rest = more.rest;
      parts = ap (λ l. p ∷ l) more.parts;
      of_first = (λ i. head_of e i ∷ more.of_first i);
      of_rest = more.of_rest;
    }

pub none_of_bares : (ps : List Piece) → bares ps ≡ [] → ps ≡ []
none_of_bares [] e = refl
none_of_bares (p ∷ ps) e = absurd (cc)

-- the next piece of a block
pub record IsNext (closed : List Bare) (index : ℕ) (left : List Piece) : Type 0 where
  pub piece : Piece
  pub later : List Piece
  pub parts : left ≡ piece ∷ later
  pub is : bare piece ≡ piece_at closed index
  pub rest : bares later ≡ drop (index + 1) closed

pub next_piece : (closed : List Bare) (index : ℕ) (left : List Piece) → index < length closed → bares left ≡ drop index closed → IsNext closed index left
next_piece closed index left inside e = by left (e ∙ drop-cons closed index no_piece inside)
  where
    by : (ps : List Piece) → bares ps ≡ piece_at closed index ∷ drop (suc index) closed → IsNext closed index ps
    by [] h = absurd (cc)
    by (p ∷ ps) h = record { piece = p; later = ps; parts = refl; is = head_of h; rest = tail_of h ∙ ap (λ n. drop n closed) (one_more index) }

pub none_left : (closed : List Bare) (index : ℕ) (left : List Piece) → length closed ≤ index → bares left ≡ drop index closed → left ≡ []
none_left closed index left past e = by left (e ∙ drop_of_length-le closed past)
  where
    by : (ps : List Piece) → bares ps ≡ [] → ps ≡ []
    by [] h = refl
    by (p ∷ ps) h = absurd (cc)

-- what is read of a closed piece is that piece
pub read_piece : (closed : List Bare) (index : ℕ) {first : TextToken} {count : ℕ} {floors : List Floor} {kids : List Kid} → first ≡ (piece_at closed index).first → count ≡ (piece_at closed index).count → floors ≡ (piece_at closed index).floors → kids ≡ (piece_at closed index).kids → piece_at closed index ≡ record { first = first; count = count; floors = floors; kids = kids }
read_piece closed index a b c d i = record { first = sym a i; count = sym b i; floors = sym c i; kids = sym d i }

-- the next part of a list
pub next_part : (parts : List Part) (i : ℕ) (part : Part) → i < length parts → part ≡ get_or parts i part → pieces_in (drop i parts) ≡ pieces_of part ++ pieces_in (drop (i + 1) parts)
next_part parts i part inside is = ap pieces_in (drop-cons parts i part inside ∙ (λ k. sym is k ∷ drop (one_more i k) parts))

-- ---- parts of a list

pub pieces_push : (parts : List Part) (part : Part) → pieces_in (parts ++ part ∷ []) ≡ pieces_in parts ++ pieces_of part
pieces_push [] part = append-nil (pieces_of part)
pieces_push (p ∷ parts) part = ap (λ l. pieces_of p ++ l) (pieces_push parts part) ∙ sym (append_assoc (pieces_of p) (pieces_in parts) (pieces_of part))

pub no_pieces : (part : Part) → length part.block.closed ≤ part.skipped → pieces_of part ≡ []
no_pieces part past = drop_of_length-le part.block.closed past

pub pieces_then : (parts more : List Part) → pieces_in (parts ++ more) ≡ pieces_in parts ++ pieces_in more
pieces_then [] more = refl
pieces_then (p ∷ parts) more = ap (λ l. pieces_of p ++ l) (pieces_then parts more) ∙ sym (append_assoc (pieces_of p) (pieces_in parts) (pieces_in more))

-- a part of a list is another
pub pieces_set : (parts : List Part) (i : ℕ) (part : Part) → i < length parts → pieces_in (set parts i part) ≡ pieces_in (take i parts) ++ (pieces_of part ++ pieces_in (drop (i + 1) parts))
pieces_set parts i part inside = ap pieces_in (set_split parts i part inside) ∙ pieces_then (take i parts) (part ∷ drop (suc i) parts) ∙ ap (λ n. pieces_in (take i parts) ++ (pieces_of part ++ pieces_in (drop n parts))) (one_more i)

pub none_next : (parts : List Part) (i : ℕ) (part : Part) → i < length parts → pieces_in (take i parts) ≡ [] → pieces_of part ≡ [] → pieces_in (take (i + 1) (set parts i part)) ≡ []
none_next parts i part inside none empty = ap pieces_in (take_more_set parts i part inside) ∙ pieces_push (take i parts) part ∙ ap (λ l. l ++ pieces_of part) none ∙ empty

-- a part that has no piece adds none
pub none_more : (parts : List Part) (i : ℕ) (part : Part) → i < length parts → part ≡ get_or parts i part → pieces_in (take i parts) ≡ [] → length part.block.closed ≤ part.skipped → pieces_in (take (i + 1) parts) ≡ []
none_more parts i part inside is none past = ap pieces_in (take_more parts i part inside) ∙ pieces_push (take i parts) (get_or parts i part) ∙ (λ k. none k ++ pieces_of (sym is k)) ∙ no_pieces part past

-- of one list that is none of two
no_first : {X : Type 0} (xs ys : List X) → xs ++ ys ≡ [] → xs ≡ []
no_first [] ys e = refl
no_first (x ∷ xs) ys e = absurd (cc)

no_second : {X : Type 0} (xs ys : List X) → xs ++ ys ≡ [] → ys ≡ []
no_second [] ys e = e
no_second (x ∷ xs) ys e = absurd (cc)

-- a part that has a piece
pub some_piece : (part : Part) → part.skipped < length part.block.closed → pieces_of part ≡ [] → ⊥
some_piece part less e = let count = ap length e in omega (arith, less, count, length-drop part.skipped part.block.closed)

-- makes that its list has one
pub some_in : (parts : List Part) (i : ℕ) (part : Part) → i < length parts → part ≡ get_or parts i part → part.skipped < length part.block.closed → pieces_in parts ≡ [] → ⊥
some_in parts i part inside is less e =
    let behind : pieces_in (drop i parts) ≡ [] = no_second (pieces_in (take i parts)) (pieces_in (drop i parts)) (sym (pieces_then (take i parts) (drop i parts)) ∙ ap pieces_in (take-append-drop i parts) ∙ e) in
    some_piece part less (no_first (pieces_of part) (pieces_in (drop (i + 1) parts)) (sym (next_part parts i part inside is) ∙ behind))

-- and so where it is the last one
pub some_last : (parts : List Part) (part : Part) → part.skipped < length part.block.closed → pieces_in parts ++ pieces_of part ≡ [] → ⊥
some_last parts part less e = some_piece part less (no_second (pieces_in parts) (pieces_of part) e)

-- the part in turn, by its place
pub part_ahead : (parts : List Part) (i : ℕ) (other : Part) → i < length parts → pieces_in (drop i parts) ≡ pieces_of (get_or parts i other) ++ pieces_in (drop (i + 1) parts)
part_ahead parts i other inside = ap pieces_in (drop-cons parts i other inside ∙ (λ k. get_or parts i other ∷ drop (one_more i k) parts))
