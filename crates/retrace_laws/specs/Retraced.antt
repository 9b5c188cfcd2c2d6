-- Entries of a growing piece whose maps are found again. The maps over a deep stack need not be kept: a step along each
-- entry's symbol leads from the map below it to its own, and where the map below has alive starts alone, so has each map that
-- is found.
-- Source: this project's own.
use Rattle.std.specs.Prelude.{◌≡◌, List, [], ◌∷◌, ◌++◌}
use Rattle.piece_theory.specs.Pieces.{Floor, Held, Piece}
use Rattle.level_laws.specs.Laws.{AreFresh}

-- entries with the same kids, whatever their maps are
pub data HaveSameKids : List Held → List Held → Type 0 where
  no_kids : HaveSameKids [] []
  same_kids : {h g : Held} {hs gs : List Held} → g.kid ≡ h.kid → HaveSameKids hs gs → HaveSameKids (h ∷ hs) (g ∷ gs)

-- some of the piece's entries, one behind the other, have lost the starts of their maps that have erred; `after` are the
-- entries below the last one, `top`
pub record IsRetraced (f : Floor) (p again : Piece) (after : List Held) (top : Held) : Type 0 where
  pub first : again.first ≡ p.first
  pub floors : again.floors ≡ p.floors
  pub low : List Held
  pub old : List Held
  pub fresh : List Held
  pub rest : List Held
  pub before : p.stack ≡ low ++ (old ++ rest)
  pub behind : again.stack ≡ low ++ (fresh ++ rest)
  pub maps : AreFresh f.starts old fresh
  pub on_stack : again.stack ≡ after ++ top ∷ []
