-- The moves of the LR machine as a list: which shifts and which reductions lead from one stack and input to another.
use Rattle.std.specs.Prelude.{◌≡◌, ℕ, ◌+◌, ◌↔◌, ◌⊎◌, List, [], ◌∷◌, ◌++◌, length, Option, Some, None}
use Rattle.grammar_data.specs.declared.token.Token.{Token as TextToken}
use Rattle.table_data.specs.declared.act.Act.{Act}
use Rattle.table_data.specs.declared.act.Act.TheVariants.{Shift, Reduce, Accept, Error}
use Rattle.table_data.specs.Tables.{Tables, act_in}
use Rattle.machine_theory.specs.Machine.{Entry, top, shifted, Reduces, Reaches}

-- a move: the next token is shifted, or the stack is reduced by the rule of this number
pub data Move : Type 0 where
  ShiftMove : Move
  ReduceMove : ℕ → Move

-- the move that an action makes, if it makes one
abbrev pub move_of : Act → Option Move
move_of (Shift p) = Some ShiftMove
move_of (Reduce r) = Some (ReduceMove r)
move_of Accept = None
move_of Error = None

-- the move leads from one stack and input to another
pub data MovesBy (t : Tables) (base : ℕ) : Move → List Entry → List TextToken → List Entry → List TextToken → Type 0 where
  shift_made : {s : List Entry} {token : TextToken} {u : List TextToken} {p : ℕ} → act_in t (top base s) token.id ≡ Shift p → MovesBy t base ShiftMove s (token ∷ u) (shifted token p ∷ s) u
  reduction_made : {s next : List Entry} {token : TextToken} {u : List TextToken} {r : ℕ} → act_in t (top base s) token.id ≡ Reduce r → Reduces t base token.id s next → MovesBy t base (ReduceMove r) s (token ∷ u) next (token ∷ u)

-- the moves, one after another, lead from one stack and input to another
pub data Runs (t : Tables) (base : ℕ) : List Entry → List TextToken → List Entry → List TextToken → List Move → Type 0 where
  no_move : {s : List Entry} {u : List TextToken} → Runs t base s u s u []
  after_move : {s mid last : List Entry} {u v w : List TextToken} {move : Move} {moves : List Move} → MovesBy t base move s u mid v → Runs t base mid v last w moves → Runs t base s u last w (move ∷ moves)

-- how many of the moves are shifts
abbrev pub shifts_in : List Move → ℕ
shifts_in [] = 0
shifts_in (ShiftMove ∷ moves) = 1 + shifts_in moves
shifts_in (ReduceMove r ∷ moves) = shifts_in moves

-- the second list begins with the first
abbrev pub Begins : List Move → List Move → Type 0
Begins moves others = (more : List Move) × (moves ++ more ≡ others)

-- where the machine comes, it comes by some moves
abbrev pub MovesLaw : Type 0
MovesLaw = (t : Tables) (base : ℕ) (s last : List Entry) (u v : List TextToken) → Reaches t base s u last v ↔ ((moves : List Move) × Runs t base s u last v moves)

-- moves one after another are the moves of one run
abbrev pub MovesThenLaw : Type 0
MovesThenLaw = (t : Tables) (base : ℕ) (s mid last : List Entry) (u v w : List TextToken) (moves more : List Move) → Runs t base s u mid v moves → Runs t base mid v last w more → Runs t base s u last w (moves ++ more)

-- of the moves of two runs from one place those of one begin with those of the other, and it goes on from there
abbrev pub OneMovesLaw : Type 0
OneMovesLaw = (t : Tables) (base : ℕ) (s first second : List Entry) (u v w : List TextToken) (moves others : List Move) → Runs t base s u first v moves → Runs t base s u second w others → ((more : List Move) × (moves ++ more ≡ others) × Runs t base first v second w more) ⊎ ((more : List Move) × (others ++ more ≡ moves) × Runs t base second w first v more)

-- each shift takes one token of the input
abbrev pub ShiftsLaw : Type 0
ShiftsLaw = (t : Tables) (base : ℕ) (s last : List Entry) (u v : List TextToken) (moves : List Move) → Runs t base s u last v moves → shifts_in moves + length v ≡ length u
