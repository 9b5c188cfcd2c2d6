-- Pieces in flat lists: a head for each closed piece, with how many floors and kids it has; the floors of all of them, and
-- the kids, one piece's after the other's, and then those of a piece that is still open.
use Rattle.std.specs.Prelude.{◌≡◌, ℕ, ◌+◌, ◌≤◌, List, [], ◌∷◌, take, drop, length, map, slice_index_or}
use Rattle.node_data.specs.declared.kid.Kid.{Kid}
use Rattle.piece_theory.specs.Pieces.{Floor}
use Rattle.piece_blocks.specs.declared.head.Head.{Head}
use Rattle.bare_theory.specs.Bare.{Bare}

-- what contracts see of a block: the closed pieces, and of the open one the floors below its last and the kids
pub record Filling : Type 0 where
  pub closed : List Bare
  pub floors : List Floor
  pub kids : List Kid

-- how many floors and how many kids the closed pieces have
abbrev pub floor_total : List Head → ℕ
floor_total [] = 0
floor_total (head ∷ heads) = head.floors + floor_total heads

abbrev pub kid_total : List Head → ℕ
kid_total [] = 0
kid_total (head ∷ heads) = head.kids + kid_total heads

-- where the floors and the kids of each closed piece begin, behind those of the pieces before it
abbrev pub floor_starts : ℕ → List Head → List ℕ
floor_starts from [] = []
floor_starts from (head ∷ heads) = from ∷ floor_starts (from + head.floors) heads

abbrev pub kid_starts : ℕ → List Head → List ℕ
kid_starts from [] = []
kid_starts from (head ∷ heads) = from ∷ kid_starts (from + head.kids) heads

-- the pieces that the heads cut from the lists
abbrev pub cut_pieces : List Head → List Floor → List Kid → List Bare
cut_pieces [] floors kids = []
cut_pieces (head ∷ heads) floors kids = record { first = head.first; count = head.count; floors = take head.floors floors; kids = take head.kids kids } ∷ cut_pieces heads (drop head.floors floors) (drop head.kids kids)

-- what holds of a block
pub record IsBlock (heads : List Head) (floors : List Floor) (kids : List Kid) (closed_floors closed_kids : ℕ) : Type 0 where
  pub floors_are : closed_floors ≡ floor_total heads
  pub kids_are : closed_kids ≡ kid_total heads
  pub floors_fit : closed_floors ≤ length floors
  pub kids_fit : closed_kids ≤ length kids
  pub floors_begin : map (λ (head : Head). head.floors_from) heads ≡ floor_starts 0 heads
  pub kids_begin : map (λ (head : Head). head.kids_from) heads ≡ kid_starts 0 heads

-- a piece with nothing
abbrev pub no_piece : Bare
no_piece = record { first = record { id = 0; place = record { line = 0; start = 0; len = 0 } }; count = 0; floors = []; kids = [] }

-- the closed piece with this number, from 0
abbrev pub piece_at : List Bare → ℕ → Bare
piece_at pieces index = slice_index_or pieces index no_piece
