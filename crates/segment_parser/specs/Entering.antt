-- Maps over entries that aren't kept are walked again from a map below, along the symbols of the entries' kids.
use Rattle.std.specs.Prelude.{◌≡◌, ℕ, ◌<◌, List, [], ◌∷◌, All, Option, length}
use Rattle.grammar_data.specs.declared.rule.Sym.{Sym}
use Rattle.grammar_data.specs.Grammar.{Rule}
use Rattle.node_data.specs.declared.kid.Kid.{Kid}
use Rattle.tree_theory.specs.Stores.{Store}
use Rattle.table_data.specs.Tables.{Tables}
use Rattle.map_theory.specs.Maps.{StateMap, target}
use Rattle.piece_theory.specs.Pieces.{Held}
use Rattle.piece_theory.specs.Applies.{HasSymbol}
use Rattle.piece_theory.specs.WellMade.{AreSteps}
use Rattle.segment_parser.specs.Working.{held_of}

-- the kid has a symbol
abbrev pub IsKnown : List Rule → Store → Kid → Type 0
IsKnown rules store kid = (x : Sym) × HasSymbol rules store kid x

-- the state over entries for each state that may stand below
abbrev pub over_all : (ℕ → Option ℕ) → List Held → ℕ → Option ℕ
over_all from [] q = from q
over_all from (h ∷ hs) q = over_all (target h.states) hs q

-- each kid has the number of a map, and the maps are exact
pub record AreEntered (t : Tables) (store : Store) (from : ℕ → Option ℕ) (maps : List StateMap) (kids : List Kid) (ids : List ℕ) : Type 0 where
  pub even : length ids ≡ length kids
  pub there : All {X = ℕ} (λ id. id < length maps) ids
  pub steps : AreSteps t store from (held_of maps kids ids)
