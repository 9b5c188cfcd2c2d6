-- The laws of the walk over a piece as it grows.
use Rattle.std.specs.Prelude.{◌≡◌, ℕ, ◌+◌, List, [], ◌∷◌, ◌++◌, replicate, None}
use Rattle.grammar_data.specs.declared.token.Token.{Token as TextToken}
use Rattle.node_data.specs.declared.kid.Kid.{Kid}
use Rattle.node_data.specs.declared.kid.Kid.TheVariants.{Token as TokenKid, Node as NodeKid, Hidden}
use Rattle.tree_theory.specs.Stores.{Ref, Store}
use Rattle.tree_theory.specs.Walks.{Step}
use Rattle.table_data.specs.Tables.{Tables}
use Rattle.map_theory.specs.Maps.{StateMap}
use Rattle.use_theory.specs.Distinct.{IsDistinct}
use Rattle.piece_theory.specs.Pieces.{Opened, Floor, Piece, openings, kids_of}
use Rattle.piece_theory.specs.WellMade.{start_of, AreFloors, AreSteps, IsMade}
use Rattle.piece_theory.specs.Laws.{HasMore}
use Rattle.walk_laws.specs.Walked.{HasWalk, IsWalked, AddsNode}

-- a store with one node more has more nodes
abbrev pub AddsMoreLaw : Type 0
AddsMoreLaw = (store new : Store) (m : Ref) (r : ℕ) (kids : List Kid) → AddsNode store new m r kids → HasMore store new

-- two pieces with the same first token and count
pub record AreOfSame (p q : Piece) : Type 0 where
  pub first : q.first ≡ p.first
  pub count : q.count ≡ p.count
  pub floors : openings q.floors ≡ openings p.floors

-- a piece is opened with a token
abbrev pub OpenedWalkLaw : Type 0
OpenedWalkLaw = (store : Store) (nodes : List Ref) (front : List Step) (p : Piece) (f : Floor) → IsDistinct store nodes front → p.floors ≡ f ∷ [] → f.opened ≡ None → kids_of p.stack ≡ TokenKid p.first ∷ [] → p.count ≡ 1 → IsWalked store nodes front p (p.first ∷ [])

-- starts and maps change, and nothing else
abbrev pub LookedWalkLaw : Type 0
LookedWalkLaw = (store : Store) (nodes : List Ref) (front : List Step) (p q : Piece) (tokens : List TextToken) → IsWalked store nodes front p tokens → AreOfSame p q → kids_of q.stack ≡ kids_of p.stack → IsWalked store nodes front q tokens

-- a token is pushed
abbrev pub ShiftedWalkLaw : Type 0
ShiftedWalkLaw = (store : Store) (nodes : List Ref) (front : List Step) (p q : Piece) (tokens : List TextToken) (token : TextToken) → IsWalked store nodes front p tokens → q.first ≡ p.first → q.count ≡ p.count + 1 → openings q.floors ≡ openings p.floors → kids_of q.stack ≡ kids_of p.stack ++ TokenKid token ∷ [] → IsWalked store nodes front q (tokens ++ token ∷ [])

-- a new node takes the last entries
abbrev pub ReducedWalkLaw : Type 0
ReducedWalkLaw = (store new : Store) (nodes : List Ref) (front : List Step) (p q : Piece) (tokens : List TextToken) (m : Ref) (r : ℕ) (keep taken : List Kid) → IsWalked store nodes front p tokens → AddsNode store new m r taken → AreOfSame p q → kids_of p.stack ≡ keep ++ taken → kids_of q.stack ≡ keep ++ NodeKid m ∷ [] → IsWalked new nodes front q tokens

-- a new node takes all entries, behind hidden kids, and opens a floor
abbrev pub FloorWalkLaw : Type 0
FloorWalkLaw = (store new : Store) (nodes : List Ref) (front : List Step) (p q : Piece) (tokens : List TextToken) (opened : Opened) → IsWalked store nodes front p tokens → AddsNode store new opened.node opened.rule (replicate opened.hidden Hidden ++ kids_of p.stack) → q.first ≡ p.first → q.count ≡ p.count → openings q.floors ≡ openings p.floors ++ opened ∷ [] → kids_of q.stack ≡ NodeKid opened.node ∷ [] → IsWalked new nodes front q tokens

-- a piece with a walk, exact floors and exact maps is well made
abbrev pub MadeLaw : Type 0
MadeLaw = (t : Tables) (store : Store) (p : Piece) (tokens : List TextToken) (steps : List Step) (last : StateMap) → AreFloors t p.first p.floors last → AreSteps t store (start_of last) p.stack → HasWalk store p tokens steps → IsMade t store p tokens steps
