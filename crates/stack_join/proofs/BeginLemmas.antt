-- Two lists of pieces in one store, before anything is joined.
use Rattle.std.proofs.Common.{◌≡◌, ◌≢◌, ℕ, suc, ◌<◌, ◌≤◌, ◌⊎◌, inl, inr, List, [], ◌∷◌, ◌++◌, length, drop, take, slice_get, eqb, false, Contains, Option, Some, None, Result, Ok, Err, OnOk, is_err, refl, sym, ap, ◌∙◌, subst, append_assoc, append-nil, arith}
use Rattle.std.proofs.lemmas.Bool.{ne_eqb, cases_eq, cond-false}
use Rattle.std.proofs.lemmas.List.{drop-append-le, length-append, map-append, take-append-le, take_all}
use Rattle.std.proofs.lemmas.List.Elements.{Contains-append_cases}
use Rattle.grammar_data.specs.declared.token.Token.{Token as TextToken}
use Rattle.grammar_theory.proofs.Lists.{Pushed, empty, pushed, all_pushed}
use Rattle.tree_theory.specs.Stores.{Ref, Store}
use Rattle.tree_theory.specs.Walks.{Step}
use Rattle.table_data.specs.Tables.{Tables}
use Rattle.use_theory.specs.Distinct.{IsDistinct, Unites}
use Rattle.piece_theory.specs.Pieces.{Piece}
use Rattle.piece_theory.specs.Lists.{ArePieces, no_piece, ArePiecesOf, nodes_of_floors}
use Rattle.use_theory.proofs.DistinctLemmas.{united_law}
use Rattle.seam_theory.specs.Seams.{IsSeam}
use Rattle.seam_theory.proofs.SameLemmas.{pieces_same}
use Rattle.seam_theory.proofs.SeamLemmas.{seam_start_law}
use Rattle.bare_theory.specs.Bare.{Bare, AreBarePiecesOf, bare, bares}
use Rattle.node_store.specs.Chunks.{AreApart, Chunk, HasChunk, Node, StoresBoth, nodes_in, numbers_in, store_of}
use Rattle.piece_lists.specs.declared.part.Part.{Part}
use Rattle.piece_lists.specs.Lists.{pieces_in, pieces_of}
use Rattle.stack_join.specs.Putting.{AreAbsorbed}
use Rattle.stack_join.proofs.PartLemmas.{none_of_bares, pieces_push}

-- ---- one store of two

-- a node stands in a chunk that there is
node_chunk : (chunks : List Chunk) (m : Ref) (node : Node) → store_of chunks m ≡ Some node → HasChunk chunks m.0
node_chunk [] m node at = absurd (cc)
node_chunk (chunk ∷ chunks) m node at = cases (cases_eq chunk.0 m.0) (λ here. node_chunk chunks m node here)
  where
    cases : (chunk.0 ≡ m.0) ⊎ (chunk.0 ≡ m.0 → ⊥) → (store_of chunks m ≡ Some node → HasChunk chunks m.0) → HasChunk (chunk ∷ chunks) m.0
    cases (inl same) in_rest = (0, omega arith, same)
    cases (inr other) in_rest =
        let rest : nodes_in (chunk ∷ chunks) m.0 ≡ nodes_in chunks m.0 = cond-false (eqb chunk.0 m.0) chunk.1 (nodes_in chunks m.0) (ne_eqb chunk.0 m.0 other) in
        let has = in_rest (sym (ap (λ l. slice_get l m.1) rest) ∙ at) in
        let inside = has.1 in
        (suc has.0, omega (arith, inside), has.2)

there_is : {X : Type 0} {x : X} → ◌≡◌ {A = Option X} (Some x) None → ⊥
there_is e = cc

pub unites_of : (left right both now : List Chunk) → AreApart left right → StoresBoth (store_of left) (store_of right) (store_of both) → ((m : Ref) → store_of now m ≡ store_of both m) → Unites (store_of left) (store_of right) (store_of now)
unites_of left right both now apart stores same = record {
  of_first = λ m there. first m there (store_of left m) refl;
  of_second = λ m there. second m there (store_of right m) refl;
  each = λ m there. each m there (store_of left m) (store_of right m) refl refl;
  apart = λ m there also. never m there also (store_of left m) (store_of right m) refl refl;
}
  where
    first : (m : Ref) → store_of left m ≢ None → (o : Option Node) → store_of left m ≡ o → store_of now m ≡ store_of left m
    first m there None is = absurd (there is)
    first m there (Some (r, kids)) is = same m ∙ stores.of_first m r kids is ∙ sym is

    second : (m : Ref) → store_of right m ≢ None → (o : Option Node) → store_of right m ≡ o → store_of now m ≡ store_of right m
    second m there None is = absurd (there is)
    second m there (Some (r, kids)) is = same m ∙ stores.of_second m r kids is ∙ sym is

    each : (m : Ref) → store_of now m ≢ None → (o z : Option Node) → store_of left m ≡ o → store_of right m ≡ z → (store_of left m ≢ None) ⊎ (store_of right m ≢ None)
    each m there (Some x) z is at = inl (λ e. there_is (sym is ∙ e))
    each m there None (Some x) is at = inr (λ e. there_is (sym at ∙ e))
    each m there None None is at = absurd (there (same m ∙ stores.of_none m is at))

    never : (m : Ref) → store_of left m ≢ None → store_of right m ≢ None → (o z : Option Node) → store_of left m ≡ o → store_of right m ≡ z → ⊥
    never m there also None z is at = there is
    never m there also (Some x) None is at = also at
    never m there also (Some x) (Some y) is at = apart m.0 (node_chunk left m x is) (node_chunk right m y at)

-- the numbers of the chunks of two stores
pub numbers_then : (chunks others : List Chunk) → numbers_in (chunks ++ others) ≡ numbers_in chunks ++ numbers_in others
numbers_then chunks others = map-append (λ (chunk : Chunk). chunk.0) chunks others

-- a number that neither has is new
pub no_chunk : (chunks others both : List Chunk) (number : ℕ) → both ≡ chunks ++ others → (HasChunk chunks number → ⊥) → (HasChunk others number → ⊥) → HasChunk both number → ⊥
no_chunk chunks others both number parts none nor has =
    cases (Contains-append_cases (numbers_in chunks) (numbers_in others) number (subst (λ l. Contains {X = ℕ} l number) (ap numbers_in parts ∙ numbers_then chunks others) has))
  where
    cases : HasChunk chunks number ⊎ HasChunk others number → ⊥
    cases (inl it) = none it
    cases (inr it) = nor it

-- the first items of a list, so many, are the list in front
pub take_front : {X : Type 0} (xs ys : List X) (n : ℕ) → n ≡ length xs → take n (xs ++ ys) ≡ xs
take_front xs ys n long = take-append-le n xs ys (omega (arith, long)) ∙ take_all n xs (omega (arith, long))

-- what holds where an answer is no error
pub where_ok : {A E P : Type 0} (r : Result A E) → is_err r ≡ false → OnOk r P → P
where_ok (Ok x) e holds = holds
where_ok (Err x) e holds = absurd (cc)

-- ---- where one list has no piece

none_tokens : {t : Tables} {store : Store} {next : List TextToken} {u : List TextToken} {steps : List Step} → ArePieces t store next [] u steps → (u ≡ []) × (steps ≡ [])
none_tokens no_piece = (refl, refl)

-- the right list alone
pub right_alone : (t : Tables) (first second new : Store) (others : List Bare) (u v : List TextToken) → Unites first second new → AreBarePiecesOf t first [] u → AreBarePiecesOf t second others v → AreBarePiecesOf t new others (u ++ v)
right_alone t first second new others u v unites none are =
    let empty_list = none_of_bares none.pieces (sym none.same) in
    let nothing : ArePiecesOf t first [] u = subst (λ l. ArePiecesOf t first l u) empty_list none.are in
    let ends = none_tokens nothing.pieces in
    let here : IsDistinct first [] [] = subst (λ l. IsDistinct first [] l) ends.1 nothing.each_once in
    record {
      pieces = are.pieces;
      same = are.same;
      are = subst (λ (l : List TextToken). ArePiecesOf t new are.pieces (l ++ v)) (sym ends.0) (record {
        steps = are.are.steps;
        pieces = pieces_same {store = second} {new = new} (λ m some. unites.of_second m (are.are.each_once.there m some)) are.are.pieces;
        each_once = united_law first second new [] (nodes_of_floors are.pieces) [] are.are.steps unites here are.are.each_once;
      });
    }

-- the left list alone
pub left_alone : (t : Tables) (first second new : Store) (others : List Bare) (u v : List TextToken) → Unites first second new → AreBarePiecesOf t first others u → AreBarePiecesOf t second [] v → AreBarePiecesOf t new others (u ++ v)
left_alone t first second new others u v unites are none =
    let empty_list = none_of_bares none.pieces (sym none.same) in
    let nothing : ArePiecesOf t second [] v = subst (λ l. ArePiecesOf t second l v) empty_list none.are in
    let ends = none_tokens nothing.pieces in
    let here : IsDistinct second [] [] = subst (λ l. IsDistinct second [] l) ends.1 nothing.each_once in
    let both : IsDistinct new (nodes_of_floors are.pieces ++ []) (are.are.steps ++ []) = united_law first second new (nodes_of_floors are.pieces) [] are.are.steps [] unites are.are.each_once here in
    let each_once : IsDistinct new (nodes_of_floors are.pieces) are.are.steps = subst (λ l. IsDistinct new (nodes_of_floors are.pieces) l) (append-nil are.are.steps) (subst (λ l. IsDistinct new l (are.are.steps ++ [])) (append-nil (nodes_of_floors are.pieces)) both) in
    record {
      pieces = are.pieces;
      same = are.same;
      are = subst (λ (l : List TextToken). ArePiecesOf t new are.pieces l) (sym (append-nil u) ∙ ap (λ (l : List TextToken). u ++ l) (sym ends.0)) (record {
        steps = are.are.steps;
        pieces = pieces_same {store = first} {new = new} (λ m some. unites.of_first m (are.are.each_once.there m some)) are.are.pieces;
        each_once = each_once;
      });
    }

-- ---- the last piece of the left list

pub record HasEnd (ps : List Piece) (lower : List Bare) (b : Bare) : Type 0 where
  pub front : List Piece
  pub last : Piece
  pub parts : ps ≡ front ++ last ∷ []
  pub same : bares front ≡ lower
  pub is : bare last ≡ b

last_of_bares : {X : Type 0} {x y : X} {xs ys : List X} → x ∷ xs ≡ y ∷ ys → (x ≡ y) × (xs ≡ ys)
last_of_bares {x = x} {y = y} {xs = xs} {ys = ys} e = (first e, rest e)
  where
    first : x ∷ xs ≡ y ∷ ys → x ≡ y
    first e = cc

    rest : x ∷ xs ≡ y ∷ ys → xs ≡ ys
    rest e = cc

pub bares_end : (ps : List Piece) (lower : List Bare) (b : Bare) → bares ps ≡ lower ++ b ∷ [] → HasEnd ps lower b
bares_end [] [] b e = absurd (cc)
bares_end [] (x ∷ lower) b e = absurd (cc)
bares_end (p ∷ ps) [] b e =
    let both = last_of_bares e in
    record { front = []; last = p; parts = ap (λ l. p ∷ l) (none_of_bares ps both.1); same = refl; is = both.0 }
bares_end (p ∷ ps) (x ∷ lower) b e =
    let both = last_of_bares e in
    let more = bares_end ps lower b both.1 in
    record { front = p ∷ more.front; last = more.last; parts = ap (λ l. p ∷ l) more.parts; same = (λ i. both.0 i ∷ more.same i); is = more.is }

pub bares_then : (ps qs : List Piece) → bares (ps ++ qs) ≡ bares ps ++ bares qs
bares_then [] qs = refl
bares_then (p ∷ ps) qs = ap (λ l. bare p ∷ l) (bares_then ps qs)

-- the last piece of a block of which some pieces are skipped
pub record HasLower (closed : List Bare) (skipped : ℕ) : Type 0 where
  pub lower : List Bare
  pub last : Bare
  pub parts : closed ≡ lower ++ last ∷ []
  pub less : skipped ≤ length lower

pub lower_of : (closed : List Bare) (skipped : ℕ) → skipped < length closed → HasLower closed skipped
lower_of closed skipped inside = by (all_pushed closed)
  where
    by : Pushed closed → HasLower closed skipped
    by (empty none) = let nothing = ap length none in absurd (omega (arith, inside, nothing))
    by (pushed lower last parts) = let count = ap length parts ∙ length-append lower (last ∷ []) in record { lower = lower; last = last; parts = parts; less = omega (arith, count, inside) }

pub drop_before : (lower : List Bare) (last : Bare) (skipped : ℕ) → skipped ≤ length lower → drop skipped (lower ++ last ∷ []) ≡ drop skipped lower ++ last ∷ []
drop_before lower last skipped less = drop-append-le skipped lower (last ∷ []) less

-- ---- the seam at which the lists meet, and the lists put together again

-- the left list ends with this piece of a block
pub record HasSeam (t : Tables) (first second new : Store) (before lower : List Bare) (b : Bare) (others : List Bare) (w : List TextToken) : Type 0 where
  pub front : List Piece
  pub last : Piece
  pub rest : List Piece
  pub same_front : bares front ≡ before ++ lower
  pub is : bare last ≡ b
  pub same_rest : bares rest ≡ others
  pub seam : IsSeam t new front last rest w

pub seam_of : (t : Tables) (first second new : Store) (closed before lower : List Bare) (b : Bare) (others : List Bare) (u v : List TextToken) → Unites first second new → closed ≡ before ++ (lower ++ b ∷ []) → AreBarePiecesOf t first closed u → AreBarePiecesOf t second others v → HasSeam t first second new before lower b others (u ++ v)
seam_of t first second new closed before lower b others u v unites parts left right =
    let whole : bares left.pieces ≡ (before ++ lower) ++ b ∷ [] = sym left.same ∙ parts ∙ sym (append_assoc before lower (b ∷ [])) in
    let end = bares_end left.pieces (before ++ lower) b whole in
    record {
      front = end.front;
      last = end.last;
      rest = right.pieces;
      same_front = end.same;
      is = end.is;
      same_rest = sym right.same;
      seam = seam_start_law t first second new end.front end.last right.pieces u v unites (subst (λ l. ArePiecesOf t first l u) end.parts left.are) right.are;
    }

-- with the piece that the last one has become, and the pieces that are left
pub put_back : (t : Tables) (store : Store) (front left : List Piece) (last : Piece) (before lower closed others : List Bare) (skipped : ℕ) (w : List TextToken) → bares front ≡ before ++ drop skipped lower → skipped ≤ length lower → closed ≡ lower ++ bare last ∷ [] → bares left ≡ others → ArePiecesOf t store (front ++ last ∷ left) w → AreBarePiecesOf t store ((before ++ drop skipped closed) ++ others) w
put_back t store front left last before lower closed others skipped w same_front less is same_left are =
    let cut : drop skipped closed ≡ drop skipped lower ++ bare last ∷ [] = ap (λ l. drop skipped l) is ∙ drop_before lower (bare last) skipped less in
    let whole : (before ++ drop skipped closed) ++ others ≡ bares (front ++ last ∷ left) =
    ap (λ l. (before ++ l) ++ others) cut ∙ ap (λ l. l ++ others) (sym (append_assoc before (drop skipped lower) (bare last ∷ []))) ∙ append_assoc (before ++ drop skipped lower) (bare last ∷ []) others
    ∙ (λ i. sym same_front i ++ bare last ∷ sym same_left i) ∙ sym (bares_then front (last ∷ left)) in
    record { pieces = front ++ last ∷ left; same = whole; are = are }

-- ---- the same for parts

-- the last part of the left list that has a piece, and the seam at which the lists meet
pub record IsBegun (t : Tables) (new : Store) (before : List Part) (part : Part) (others : List Bare) (w : List TextToken) : Type 0 where
  pub front : List Piece
  pub last : Piece
  pub rest : List Piece
  pub lower : List Bare
  pub closed : part.block.closed ≡ lower ++ bare last ∷ []
  pub less : part.skipped ≤ length lower
  pub same_front : bares front ≡ pieces_in before ++ drop part.skipped lower
  pub same_rest : bares rest ≡ others
  pub seam : IsSeam t new front last rest w

pub begun : (t : Tables) (first second new : Store) (closed others : List Bare) (before : List Part) (part : Part) (u v : List TextToken) → Unites first second new → part.skipped < length part.block.closed → closed ≡ pieces_in before ++ pieces_of part → AreBarePiecesOf t first closed u → AreBarePiecesOf t second others v → IsBegun t new before part others (u ++ v)
begun t first second new closed others before part u v unites inside parts left right =
    let low = lower_of part.block.closed part.skipped inside in
    let cut : pieces_of part ≡ drop part.skipped low.lower ++ low.last ∷ [] = ap (λ l. drop part.skipped l) low.parts ∙ drop_before low.lower low.last part.skipped low.less in
    let at = seam_of t first second new closed (pieces_in before) (drop part.skipped low.lower) low.last others u v unites (parts ∙ ap (λ l. pieces_in before ++ l) cut) left right in
    record {
      front = at.front;
      last = at.last;
      rest = at.rest;
      lower = low.lower;
      closed = low.parts ∙ ap (λ b. low.lower ++ b ∷ []) (sym at.is);
      less = low.less;
      same_front = at.same_front;
      same_rest = at.same_rest;
      seam = at.seam;
    }

-- the part is put back with the piece that its last one has become, and the lists are pieces of the tokens of both
pub ended : (t : Tables) (new store : Store) (before : List Part) (part after : Part) (others : List Bare) (left : List Part) (w : List TextToken) (begin : IsBegun t new before part others w) → after.skipped ≡ part.skipped → AreAbsorbed t store begin.front begin.lower after.block.closed left w → AreBarePiecesOf t store (pieces_in (before ++ after ∷ []) ++ pieces_in left) w
ended t new store before part after others left w begin same absorbed =
    let less : after.skipped ≤ length begin.lower = subst (λ n. n ≤ length begin.lower) (sym same) begin.less in
    let front : bares begin.front ≡ pieces_in before ++ drop after.skipped begin.lower = begin.same_front ∙ ap (λ n. pieces_in before ++ drop n begin.lower) (sym same) in
    subst (λ l. AreBarePiecesOf t store (l ++ pieces_in left) w) (sym (pieces_push before after)) (put_back t store begin.front absorbed.left absorbed.last (pieces_in before) begin.lower after.block.closed (pieces_in left) after.skipped w front less absorbed.same absorbed.same_left absorbed.are)
