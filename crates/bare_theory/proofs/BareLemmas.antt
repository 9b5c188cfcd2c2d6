-- Pieces that are the same without their maps.
use Rattle.std.proofs.Common.{◌≡◌, List, [], ◌∷◌, refl, sym, ap, ap₂}
use Rattle.grammar_data.specs.declared.token.Token.{Token as TextToken}
use Rattle.tree_theory.specs.Stores.{Store}
use Rattle.tree_theory.specs.Walks.{Step}
use Rattle.table_data.specs.Tables.{Tables}
use Rattle.piece_theory.specs.Pieces.{Piece}
use Rattle.piece_theory.specs.Lists.{ArePieces, no_piece, piece_first}
use Rattle.entry_laws.proofs.EntryLemmas.{one_piece_law}
use Rattle.bare_theory.specs.Bare.{Bare, bare, bares}
use Rattle.bare_theory.specs.Laws.{OneMapsLaw}

first_bare : {a b : Bare} {xs ys : List Bare} → a ∷ xs ≡ b ∷ ys → a ≡ b
first_bare e = cc

later_bares : {a b : Bare} {xs ys : List Bare} → a ∷ xs ≡ b ∷ ys → xs ≡ ys
later_bares e = cc

no_bare : {a : Bare} {xs : List Bare} → [] ≡ a ∷ xs → ⊥
no_bare e = cc

pieces_once : {t : Tables} {store : Store} {next after : List TextToken} {ps qs : List Piece} {w other : List TextToken} {steps more : List Step} → ArePieces t store next ps w steps → ArePieces t store after qs other more → bares ps ≡ bares qs → ps ≡ qs
pieces_once no_piece no_piece e = refl
pieces_once no_piece (piece_first made stands right stuck rest w steps) e = absurd (no_bare e)
pieces_once (piece_first made stands right stuck rest w steps) no_piece e = absurd (no_bare (sym e))
pieces_once {t} {store} (piece_first {p = p} {u = u} {first = first} made stands right stuck rest w steps) (piece_first {p = q} {u = v} {first = begun} also stands1 right1 stuck1 rest1 w1 steps1) e =
    let same : bare p ≡ bare q = first_bare e in
    ap₂ (λ x xs. x ∷ xs)
    (one_piece_law t store p q u v first begun made also (ap (λ (b : Bare). b.first) same) (ap (λ (b : Bare). b.count) same) (ap (λ (b : Bare). b.floors) same) (ap (λ (b : Bare). b.kids) same))
    (pieces_once rest rest1 (later_bares e))

pub one_maps_law : OneMapsLaw
one_maps_law t store ps qs w other one two e = pieces_once one.pieces two.pieces e
