-- The open piece is closed again, and the parts that are left.
use Rattle.std.proofs.Common.{◌≡◌, ℕ, ◌+◌, ◌<◌, ◌≤◌, List, [], ◌∷◌, ◌++◌, length, set, take, drop, true, false, subst, refl, sym, ap, ◌∙◌, arith}
use Rattle.std.proofs.Math.ListN.{drop_of_length-le}
use Rattle.std.proofs.lemmas.List.{drop-set-lt, take_all}
use Rattle.grammar_data.specs.declared.token.Token.{Token as TextToken}
use Rattle.node_data.specs.declared.kid.Kid.{Kid}
use Rattle.tree_theory.specs.Stores.{Store}
use Rattle.table_data.specs.Tables.{Tables}
use Rattle.map_theory.specs.Maps.{StateMap}
use Rattle.piece_theory.specs.Pieces.{Piece, kids_of}
use Rattle.piece_theory.specs.Lists.{ArePiecesOf}
use Rattle.segment_laws.proofs.KidLemmas.{fresh_kids}
use Rattle.bare_theory.specs.Bare.{Bare, bare, bares}
use Rattle.seam_theory.proofs.SeamLemmas.{seam_end_law}
use Rattle.piece_lists.specs.declared.part.Part.{Part}
use Rattle.piece_lists.specs.Lists.{pieces_in, pieces_of}
use Rattle.segment_parser.specs.declared.leaf.Leaf.{Leaf}
use Rattle.segment_parser.specs.Working.{held_of}
use Rattle.segment_parser.specs.Standing.{last_in}
use Rattle.stack_join.specs.Joining.{IsAtSeam, IsDecided, IsKeptAs}
use Rattle.stack_join.specs.Putting.{AreAbsorbed, AreAllPut, IsPartPut}
use Rattle.stack_join.proofs.BeginLemmas.{bares_then}
use Rattle.stack_join.proofs.MeetLemmas.{seam_stuck}
use Rattle.stack_join.proofs.PartLemmas.{none_of_bares, pieces_set}

-- ---- the piece that is closed

held_kids : (maps : List StateMap) (kids : List Kid) (ids : List ℕ) → length kids ≡ length ids → kids_of (held_of maps kids ids) ≡ kids
held_kids maps [] ids e = refl
held_kids maps (k ∷ kids) [] e = absurd (omega (arith, e))
held_kids maps (k ∷ kids) (x ∷ ids) e = ap (λ l. k ∷ l) (held_kids maps kids ids (omega (arith, e)))

closed_as : (maps : List StateMap) (s : Leaf) (p : Piece) → IsKeptAs maps s p → record { first = s.first; count = s.count; floors = s.block.floors ++ last_in maps s ∷ []; kids = s.block.kids } ≡ bare p
closed_as maps s p kept =
    let kids : s.block.kids ≡ kids_of p.stack = sym (held_kids maps s.block.kids s.ids.items kept.has.even) ∙ sym (fresh_kids kept.fresh) in
    λ i. record { first = kept.first i; count = kept.count i; floors = kept.floors i; kids = kids i }

-- where the open piece is stuck under the first of the pieces that are left, or none is, all are pieces of the tokens
all_are : (t : Tables) (store : Store) (maps : List StateMap) (s : Leaf) (front left : List Piece) (w : List TextToken) (at : IsAtSeam t store maps s front left w) → ((right : Piece) (others : List Piece) → left ≡ right ∷ others → IsDecided t maps s right.first false) → ArePiecesOf t store (front ++ at.last ∷ left) w
all_are t store maps s front [] w at stuck = seam_end_law t store front at.last [] w tt at.seam
all_are t store maps s front (right ∷ others) w at stuck = seam_end_law t store front at.last (right ∷ others) w (seam_stuck t store maps s front (right ∷ others) w right.first at (stuck right others refl)) at.seam

pub absorbed : (t : Tables) (store : Store) (maps : List StateMap) (s : Leaf) (front : List Piece) (others closed : List Bare) (parts : List Part) (w : List TextToken) → AreAllPut t store maps s front parts w → closed ≡ others ++ record { first = s.first; count = s.count; floors = s.block.floors ++ last_in maps s ∷ []; kids = s.block.kids } ∷ [] → AreAbsorbed t store front others closed parts w
absorbed t store maps s front others closed parts w put is = record {
  last = put.at.last;
  left = put.left;
  same = is ∙ ap (λ (b : Bare). others ++ b ∷ []) (closed_as maps s put.at.last put.at.kept_as);
  same_left = put.same;
  are = all_are t store maps s front put.left w put.at put.stuck;
}

-- ---- parts

-- so many parts are put on, and those behind them are as they were
pub record ArePutTo (t : Tables) (store : Store) (maps : List StateMap) (s : Leaf) (front : List Piece) (parts : List Part) (i : ℕ) (w : List TextToken) : Type 0 where
  pub left : List Piece
  pub same : bares left ≡ pieces_in (drop i parts)
  pub at : IsAtSeam t store maps s front left w

-- one part more is put on
pub put_next : (t : Tables) (store : Store) (maps : List StateMap) (s : Leaf) (front rest : List Piece) (parts : List Part) (i : ℕ) (part : Part) (w : List TextToken) → i < length parts → bares rest ≡ pieces_in (drop (i + 1) parts) → IsPartPut t store maps s front rest w part true → ArePutTo t store maps s front (set parts i part) (i + 1) w
put_next t store maps s front rest parts i part w inside same put = record { left = rest; same = same ∙ ap pieces_in (sym (drop-set-lt (i + 1) parts i part (omega arith))); at = put.1 }

-- all are put on
pub all_put : (t : Tables) (store : Store) (maps : List StateMap) (s : Leaf) (front : List Piece) (parts : List Part) (i : ℕ) (w : List TextToken) → length parts ≤ i → pieces_in (take i parts) ≡ [] → ArePutTo t store maps s front parts i w → AreAllPut t store maps s front parts w
all_put t store maps s front parts i w past none put =
    let nothing : bares put.left ≡ [] = put.same ∙ ap pieces_in (drop_of_length-le parts past) in
    let empty_list = none_of_bares put.left nothing in
    record {
      left = [];
      same = sym none ∙ ap pieces_in (take_all i parts past);
      at = subst (λ l. IsAtSeam t store maps s front l w) empty_list put.at;
      stuck = λ right others e. absurd (cc);
    }

-- or pieces of a part are left, and all behind it
pub some_left : (t : Tables) (store : Store) (maps : List StateMap) (s : Leaf) (front rest : List Piece) (parts : List Part) (i : ℕ) (part : Part) (w : List TextToken) → i < length parts → pieces_in (take i parts) ≡ [] → bares rest ≡ pieces_in (drop (i + 1) parts) → IsPartPut t store maps s front rest w part false → AreAllPut t store maps s front (set parts i part) w
some_left t store maps s front rest parts i part w inside none same left = record {
  left = left.right ∷ (left.others ++ rest);
  same = bares_then (left.right ∷ left.others) rest ∙ (λ k. left.same k ++ same k) ∙ sym (pieces_set parts i part inside ∙ ap (λ l. l ++ (pieces_of part ++ pieces_in (drop (i + 1) parts))) none);
  at = left.at;
  stuck = λ right others e. subst (λ (p : Piece). IsDecided t maps s p.first false) (first_of e) left.stuck;
}
  where
    first_of : {right : Piece} {others : List Piece} → left.right ∷ (left.others ++ rest) ≡ right ∷ others → left.right ≡ right
    first_of e = cc
