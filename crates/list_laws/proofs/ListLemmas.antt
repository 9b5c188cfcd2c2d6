-- Lists of pieces.
use Rattle.std.proofs.Common.{◌≡◌, List, [], ◌∷◌, ◌++◌, refl, sym, ap, ◌∙◌, subst, append_assoc, append-nil}
use Rattle.grammar_data.specs.declared.token.Token.{Token as TextToken}
use Rattle.tree_theory.specs.Stores.{Store}
use Rattle.tree_theory.specs.Walks.{Step}
use Rattle.table_data.specs.Tables.{Tables}
use Rattle.piece_theory.specs.Pieces.{Piece, floor_nodes}
use Rattle.piece_theory.specs.Applies.{StandsFor}
use Rattle.piece_theory.specs.Lists.{IsStuckUnder, first_or, ArePieces, no_piece, piece_first, nodes_of_floors}
use Rattle.piece_theory.specs.Laws.{HasMore}
use Rattle.piece_theory.proofs.StoreLemmas.{stands_more_law, made_more_law}
use Rattle.list_laws.specs.Laws.{PiecesThenLaw, AreCutAt, PiecesSplitLaw, PiecePushedLaw, PiecesMoreLaw, FloorsThenLaw}

-- what follows the first part's rest is what follows the whole's
first_then : (next : List TextToken) (ps qs : List Piece) → first_or (first_or next qs) ps ≡ first_or next (ps ++ qs)
first_then next [] qs = refl
first_then next (p ∷ ps) qs = refl

pub pieces_then : {t : Tables} {store : Store} {next : List TextToken} (qs : List Piece) {ps : List Piece} {u v : List TextToken} {first second : List Step} → ArePieces t store (first_or next qs) ps u first → ArePieces t store next qs v second → ArePieces t store next (ps ++ qs) (u ++ v) (first ++ second)
pieces_then qs no_piece after = after
pieces_then {t} {store} {next} qs {v = v} {second = second} (piece_first {p = p} {ps = ps} {u = u} {v = w} {first = first} {rest = rest} made stands right stuck before tokens walk) after =
    let e = first_then next ps qs in
    piece_first made (subst (λ l. StandsFor t store p u l) e stands) right (subst (λ l. IsStuckUnder t p l) e stuck) (pieces_then qs before after) (ap (λ l. l ++ v) tokens ∙ append_assoc u w v) (ap (λ l. l ++ second) walk ∙ append_assoc first rest second)

pub pieces_then_law : PiecesThenLaw
pieces_then_law t store next ps qs u v first second before after = pieces_then qs before after

pub pieces_split : (t : Tables) (store : Store) (next : List TextToken) (ps qs : List Piece) {w : List TextToken} {steps : List Step} → ArePieces t store next (ps ++ qs) w steps → AreCutAt t store next ps qs w steps
pieces_split t store next [] qs {w} {steps} all = record { u = []; v = w; first = []; second = steps; before = no_piece; after = all; tokens = refl; walk = refl }
pieces_split t store next (p ∷ ps) qs (piece_first {u = u} {first = first} made stands right stuck rest tokens walk) =
    let parts = pieces_split t store next ps qs rest in
    let e = sym (first_then next ps qs) in
    record {
      u = u ++ parts.u;
      v = parts.v;
      first = first ++ parts.first;
      second = parts.second;
      before = piece_first made (subst (λ l. StandsFor t store p u l) e stands) right (subst (λ l. IsStuckUnder t p l) e stuck) parts.before refl refl;
      after = parts.after;
      tokens = tokens ∙ ap (λ l. u ++ l) parts.tokens ∙ sym (append_assoc u parts.u parts.v);
      walk = walk ∙ ap (λ l. first ++ l) parts.walk ∙ sym (append_assoc first parts.first parts.second);
    }

pub pieces_split_law : PiecesSplitLaw
pieces_split_law t store next ps qs w steps all = pieces_split t store next ps qs all

pub piece_pushed_law : PiecePushedLaw
piece_pushed_law t store next ps p u v front steps before made stands right stuck = pieces_then (p ∷ []) before (piece_first made stands right stuck no_piece (sym (append-nil v)) (sym (append-nil steps)))

pub pieces_more : {t : Tables} {store more : Store} {next : List TextToken} → HasMore store more → {ps : List Piece} {w : List TextToken} {steps : List Step} → ArePieces t store next ps w steps → ArePieces t more next ps w steps
pieces_more has no_piece = no_piece
pieces_more {t} {store} {more} {next} has (piece_first {p = p} {ps = ps} {u = u} {first = first} made stands right stuck rest tokens walk) =
    piece_first (made_more_law t store more has p u first made) (stands_more_law t store more has p u (first_or next ps) stands) right stuck (pieces_more has rest) tokens walk

pub pieces_more_law : PiecesMoreLaw
pieces_more_law t store more next ps w steps has all = pieces_more has all

pub floors_then_law : FloorsThenLaw
floors_then_law [] qs = refl
floors_then_law (p ∷ ps) qs = ap (λ l. floor_nodes p.floors ++ l) (floors_then_law ps qs) ∙ sym (append_assoc (floor_nodes p.floors) (nodes_of_floors ps) (nodes_of_floors qs))
