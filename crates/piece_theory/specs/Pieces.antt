-- Pieces of a parse. A piece is what the tokens of a part of a text are for every stack at once on which the first of them
-- is shifted: what stands in front of the part is not known, so each state in which it may begin is followed. The
-- entries of a piece are those of a stack that the tokens leave, each with the state over it for each start. Where a
-- reduction takes more symbols than the piece has entries, a floor is opened: the rule's first symbols, as many as are
-- missing, are hidden in the stack below, and the starts from then on are the states below them. Each floor keeps the
-- starts at which the tokens can't go on, with the error of each.
-- Source: parsing parts of a text at once after Fischer, On Parsing Context Free Languages in Parallel Environments, 1975;
-- Mickunas and Schell, Parallel Compilation in a Multiprocessor Environment, 1978. Floors are this project's own.
use Rattle.std.specs.Prelude.{ℕ, ◌==◌, if◌then◌else◌, List, [], ◌∷◌, map, Option, Some, None}
use Rattle.grammar_data.specs.declared.token.Token.{Token as TextToken}
use Rattle.node_data.specs.declared.kid.Kid.{Kid}
use Rattle.tree_theory.specs.Stores.{Ref}
use Rattle.map_theory.specs.Maps.{StateMap}

-- a start at which the tokens err: in this state on top, under the token at this index, counted from the piece's first
pub record Fault : Type 0 where
  pub start : ℕ
  pub index : ℕ
  pub token : TextToken
  pub state : ℕ

-- what opened a floor: the rule of the reduction, how many of its symbols are hidden, and the node that it made
pub record Opened : Type 0 where
  pub rule : ℕ
  pub hidden : ℕ
  pub node : Ref

-- a floor: what opened it, which is nothing for the first one; the starts that are alive, each with the start of the floor
-- below that it leads to, on the first floor with itself; and the starts that err
pub record Floor : Type 0 where
  pub opened : Option Opened
  pub starts : StateMap
  pub faults : List Fault

-- an entry that a piece holds: the kid that it will be of the node that takes it, and the state over it for each start
pub record Held : Type 0 where
  pub kid : Kid
  pub states : StateMap

-- a piece: its first token, the number of its tokens, its floors, the first one first, and its entries, the lowest first
pub record Piece : Type 0 where
  pub first : TextToken
  pub count : ℕ
  pub floors : List Floor
  pub stack : List Held

-- the fault of a start, if it has one
abbrev pub fault_at : List Fault → ℕ → Option Fault
fault_at [] start = None
fault_at (fault ∷ faults) start = (if fault.start == start then Some fault else fault_at faults start)

-- how many symbols are hidden below a floor: none below the first
abbrev pub hidden_of : Option Opened → ℕ
hidden_of None = 0
hidden_of (Some opened) = opened.hidden

-- what opened the floors that were opened, in their order
abbrev pub opening_before : Option Opened → List Opened → List Opened
opening_before None more = more
opening_before (Some opened) more = opened ∷ more

abbrev pub openings : List Floor → List Opened
openings [] = []
openings (f ∷ fs) = opening_before f.opened (openings fs)

-- the nodes of the floors, in their order
abbrev pub floor_nodes : List Floor → List Ref
floor_nodes fs = map (λ opened. opened.node) (openings fs)

-- the kids of the entries
abbrev pub kids_of : List Held → List Kid
kids_of hs = map (λ held. held.kid) hs
