-- Behind the last floor the next piece's entries are put on those that are left. Code keeps the maps over the lower entries
-- as they are, where they may still have starts that have erred, and walks the tables from the map over the last entry
-- along the symbols of the new ones. With its maps restricted to the alive starts that piece is the joined one; and as it is,
-- it is an open piece, that can be looked at under the token that follows.
-- Source: as of pieces that are joined; the laws are this project's own.
use Rattle.std.specs.Prelude.{◌≡◌, ℕ, ◌+◌, ◌-◌, ◌≤◌, List, [], ◌∷◌, ◌++◌, length, All}
use Rattle.grammar_data.specs.declared.token.Token.{Token as TextToken}
use Rattle.grammar_data.specs.Grammar.{Grammar}
use Rattle.tree_theory.specs.Stores.{Store}
use Rattle.tree_theory.specs.Walks.{Step}
use Rattle.table_data.specs.Tables.{Tables}
use Rattle.lawful_theory.specs.Lawful.{IsLawfulFor}
use Rattle.map_theory.specs.Maps.{StateMap, target, IsRising}
use Rattle.piece_theory.specs.Pieces.{Floor, Held, Piece, kids_of}
use Rattle.piece_theory.specs.Applies.{StandsFor, TakesRight}
use Rattle.piece_theory.specs.WellMade.{AreSteps, IsMade}
use Rattle.context_laws.specs.Contexts.{LeadFromStates}
use Rattle.level_laws.specs.Growing.{AreTight}
use Rattle.level_laws.specs.Laws.{AreFresh}
use Rattle.leaf_laws.specs.Leaves.{IsOpenPiece}
use Rattle.join_theory.specs.Faults.{state_over}
use Rattle.joined_laws.specs.Joining.{Beside}
use Rattle.joined_laws.specs.Joint.{Meet, IsJoining, IsJoined}
use Rattle.landing_laws.specs.Carrying.{IsOverAlive}

-- the maps of entries have rising starts
abbrev pub AreRising : List Held → Type 0
AreRising hs = All {X = Held} (λ h. IsRising h.states) hs

-- where the entries with their maps restricted are those of a well made piece that stands for its tokens, and from some entry
-- on the maps have alive starts alone, the piece with the maps as they are is an open one
abbrev pub LooseOpenLaw : Type 0
LooseOpenLaw = (t : Tables) (store : Store) (p : Piece) (fresh : List Held) (w next : List TextToken) (steps : List Step) (lower : List Floor) (f : Floor) (under : List Held) (h : Held) (stale : ℕ)
    → IsMade t store (record p { stack = fresh }) w steps → StandsFor t store (record p { stack = fresh }) w next → TakesRight t (record p { stack = fresh }) → AreFresh f.starts p.stack fresh
    → p.floors ≡ lower ++ f ∷ [] → p.stack ≡ under ++ h ∷ [] → AreRising p.stack → AreTight f.starts stale p.stack → stale ≤ length under
    → IsOpenPiece t store p w next lower f under h stale

-- the new piece, its entries with restricted maps, and its last entry
pub record IsPutBehind (t : Tables) (store now : Store) (right after : Piece) (tokens next : List TextToken) (beside : Beside) (lower : List Floor) (e : Floor) (stale : ℕ) : Type 0 where
  pub fresh : List Held
  pub restricted : AreFresh e.starts after.stack fresh
  pub joined : IsJoined t store now right (record after { stack = fresh }) tokens next beside
  pub rising : AreRising after.stack
  pub tight : AreTight e.starts stale after.stack
  pub under : List Held
  pub last : Held
  pub open_piece : IsOpenPiece t now after tokens next lower e under last stale

-- the entries `put` with the right piece's kids are walked from the map over the last entry, and put behind
abbrev pub JoinPutLaw : Type 0
JoinPutLaw = (g : Grammar) (t : Tables) → IsLawfulFor g t → LeadFromStates t → (store now : Store) (left right p after : Piece) (u v next : List TextToken) (steps more : List Step) (beside : Beside) (lower : List Floor) (e : Floor) (tops : StateMap) (put : List Held) (stale : ℕ)
    → Meet t store left right u v next steps more → IsJoining t store now left right p u v beside lower e [] → AreTight e.starts stale p.stack → stale ≤ length p.stack - 1 → IsOverAlive e.starts tops (state_over e.starts p.stack)
    → AreSteps t now (target tops) put → kids_of put ≡ kids_of right.stack
    → after.first ≡ p.first → after.count ≡ left.count + right.count → after.floors ≡ p.floors → after.stack ≡ p.stack ++ put → IsPutBehind t store now right after (u ++ v) next beside lower e stale
