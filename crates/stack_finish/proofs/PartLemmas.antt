-- The pieces of parts, one after the other.
use Rattle.std.proofs.Common.{◌≡◌, ℕ, suc, ◌+◌, ◌<◌, ◌≤◌, List, [], ◌∷◌, ◌++◌, length, drop, get_or, refl, sym, ap, ◌∙◌, subst, arith}
use Rattle.std.proofs.Math.Seq.{drop-cons}
use Rattle.std.proofs.Math.ListN.{drop_of_length-le}
use Rattle.grammar_data.specs.declared.token.Token.{Token as TextToken}
use Rattle.node_data.specs.declared.kid.Kid.{Kid}
use Rattle.piece_theory.specs.Pieces.{Floor, Piece}
use Rattle.bare_theory.specs.Bare.{Bare, bare, bares}
use Rattle.tree_theory.specs.Stores.{Ref, Store}
use Rattle.table_data.specs.Tables.{Tables}
use Rattle.use_theory.proofs.KeptLemmas.{kept_same}
use Rattle.piece_theory.specs.Lists.{ArePiecesOf}
use Rattle.finish_theory.proofs.EndingLemmas.{ending_start_law}
use Rattle.node_store.specs.Chunks.{store_of}
use Rattle.piece_blocks.specs.Blocks.{no_piece, piece_at}
use Rattle.piece_lists.specs.declared.part.Part.{Part}
use Rattle.piece_lists.specs.Lists.{pieces_of, pieces_in}
use Rattle.stack_finish.specs.declared.gathered.Gathered.{Gathered}
use Rattle.stack_finish.specs.Gathering.{ground, entries_on, piece_on, IsGathered}
use Rattle.stack_finish.proofs.PieceLemmas.{total_is}

tail_of : {X : Type 0} {x y : X} {xs ys : List X} → x ∷ xs ≡ y ∷ ys → xs ≡ ys
tail_of e = cc

head_of : {X : Type 0} {x y : X} {xs ys : List X} → x ∷ xs ≡ y ∷ ys → x ≡ y
head_of e = cc

one_more : (n : ℕ) → suc n ≡ n + 1
one_more n = omega arith

-- pieces in two parts
pub record AreTwo (ps : List Piece) (xs ys : List Bare) : Type 0 where
  pub first : List Piece
  pub rest : List Piece
  pub parts : ps ≡ first ++ rest
  pub of_first : bares first ≡ xs
  pub of_rest : bares rest ≡ ys

pub bares_split : (ps : List Piece) (xs ys : List Bare) → bares ps ≡ xs ++ ys → AreTwo ps xs ys
bares_split ps [] ys e = record { first = []; rest = ps; parts = refl; of_first = refl; of_rest = e }
bares_split [] (x ∷ xs) ys e = absurd (cc)
bares_split (p ∷ ps) (x ∷ xs) ys e =
    let more = bares_split ps xs ys (tail_of e) in
    record {
      first = p ∷ more.first;
      rest = more.rest;
      parts = ap (λ l. p ∷ l) more.parts;
      of_first = (λ i. head_of e i ∷ more.of_first i);
      of_rest = more.of_rest;
    }

pub none_of_bares : (ps : List Piece) → bares ps ≡ [] → ps ≡ []
none_of_bares [] e = refl
none_of_bares (p ∷ ps) e = absurd (cc)

-- the next piece of a block
pub record IsNext (closed : List Bare) (index : ℕ) (left : List Piece) : Type 0 where
  pub piece : Piece
  pub later : List Piece
  pub parts : left ≡ piece ∷ later
  pub is : bare piece ≡ piece_at closed index
  pub rest : bares later ≡ drop (index + 1) closed

pub next_piece : (closed : List Bare) (index : ℕ) (left : List Piece) → index < length closed → bares left ≡ drop index closed → IsNext closed index left
next_piece closed index left inside e = by left (e ∙ drop-cons closed index no_piece inside)
  where
    by : (ps : List Piece) → bares ps ≡ piece_at closed index ∷ drop (suc index) closed → IsNext closed index ps
    by [] h = absurd (cc)
    by (p ∷ ps) h = record { piece = p; later = ps; parts = refl; is = head_of h; rest = tail_of h ∙ ap (λ n. drop n closed) (one_more index) }

pub none_left : (closed : List Bare) (index : ℕ) (left : List Piece) → length closed ≤ index → bares left ≡ drop index closed → left ≡ []
none_left closed index left past e = by left (e ∙ drop_of_length-le closed past)
  where
    by : (ps : List Piece) → bares ps ≡ [] → ps ≡ []
    by [] h = refl
    by (p ∷ ps) h = absurd (cc)

-- what is read of a closed piece is that piece
pub read_piece : (closed : List Bare) (index : ℕ) {first : TextToken} {count : ℕ} {floors : List Floor} {kids : List Kid} → first ≡ (piece_at closed index).first → count ≡ (piece_at closed index).count → floors ≡ (piece_at closed index).floors → kids ≡ (piece_at closed index).kids → piece_at closed index ≡ record { first = first; count = count; floors = floors; kids = kids }
read_piece closed index a b c d i = record { first = sym a i; count = sym b i; floors = sym c i; kids = sym d i }

-- the next part of a list
pub next_part : (parts : List Part) (i : ℕ) (part : Part) → i < length parts → part ≡ get_or parts i part → pieces_in (drop i parts) ≡ pieces_of part ++ pieces_in (drop (i + 1) parts)
next_part parts i part inside is = ap pieces_in (drop-cons parts i part inside ∙ (λ k. sym is k ∷ drop (one_more i k) parts))

-- nothing is gathered yet
pub gathered_start : {t : Tables} {base : Store} {s : Gathered} {ps : List Piece} {w : List TextToken} → s.kids.items ≡ [] → s.states.items ≡ [] → s.count ≡ 0 → ((m : Ref) → store_of s.store m ≡ base m) → ArePiecesOf t base ps w → IsGathered t base s ps w
gathered_start {t} {base} {s} {ps} {w} kids states count same are =
    let here : ArePiecesOf t (store_of s.store) ps w = subst (λ st. ArePiecesOf t st ps w) (λ i m. sym (same m) i) are in
    let total = total_is are.pieces in
    let a = ap (λ (l : List Kid). length l) kids in
    let b = ap (λ (l : List ℕ). length l) states in
    record {
      kept = kept_same base (store_of s.store) (λ m some. same m);
      even = omega (arith, a, b);
      ending = ending_start_law t (store_of s.store) (piece_on s.kids.items s.states.items) ground ps w refl refl refl (ap (λ l. entries_on l s.states.items) kids) here;
      counted = omega (arith, total, count);
    }
