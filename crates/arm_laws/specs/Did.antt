-- A piece and the moves that it stands for. From a context the machine has made these moves over its input and come to the
-- stack that the piece leaves, with nothing or one token left; or it has made some of them, maybe all, and erred, with the
-- fault that the piece has for the context. The input is one list, what is left of it another, so that a run stays as it
-- is where more input is looked at.
use Rattle.std.specs.Prelude.{◌≡◌, ◌≢◌, ℕ, List, [], ◌∷◌, ◌++◌, length, Option, Some, None}
use Rattle.grammar_data.specs.declared.token.Token.{Token as TextToken}
use Rattle.tree_theory.specs.Stores.{Store}
use Rattle.table_data.specs.declared.act.Act.TheVariants.{Error}
use Rattle.table_data.specs.Tables.{Tables, act_in}
use Rattle.machine_theory.specs.Machine.{Entry, top}
use Rattle.map_theory.specs.Maps.{target}
use Rattle.part_theory.specs.Moves.{Move, Runs}
use Rattle.piece_theory.specs.Pieces.{Fault, Floor, Held, Piece, fault_at}
use Rattle.piece_theory.specs.Applies.{Fails, Leaves, Tells}

-- the machine makes some of the moves, or all of them, and then errs with this fault
pub record ErrsBy (t : Tables) (s : List Entry) (input : List TextToken) (fault : Fault) (moves : List Move) : Type 0 where
  pub made : List Move
  pub more : List Move
  pub of_moves : made ++ more ≡ moves
  pub stack : List Entry
  pub before : List TextToken
  pub later : List TextToken
  pub parts : input ≡ before ++ fault.token ∷ later
  pub at : length before ≡ fault.index
  pub run : Runs t 0 s input stack (fault.token ∷ later) made
  pub state_on_top : top 0 stack ≡ fault.state
  pub error : act_in t fault.state fault.token.id ≡ Error

-- from the stack `s` the machine does what the piece says, by these moves; `next` is left of the input
pub data Did (t : Tables) (store : Store) (p : Piece) (input next : List TextToken) (moves : List Move) (s : List Entry) : Type 0 where
  did_err : {fault : Fault} → Fails p.floors s fault → ErrsBy t s input fault moves → Did t store p input next moves s
  did_leave : {last : List Entry} → Leaves t.rules store p s last → Runs t 0 s input last next moves → Did t store p input next moves s

-- the state over entries that are pushed where this is the state on top, if there is one, for the start `q`
abbrev pub over_from : Option ℕ → List Held → ℕ → Option ℕ
over_from below [] q = below
over_from below (h ∷ hs) q = over_from (target h.states q) hs q

-- the state over the entries for a start: the target of the last one's map; with no entry the start itself
abbrev pub over : List Held → ℕ → Option ℕ
over hs q = over_from (Some q) hs q

-- entries are the same to the start `q`: with the same kids and the same states for it
pub data AreSameAt (q : ℕ) : List Held → List Held → Type 0 where
  none_same : AreSameAt q [] []
  same_first : {h g : Held} {hs gs : List Held} → g.kid ≡ h.kid → target g.states q ≡ target h.states q → AreSameAt q hs gs → AreSameAt q (h ∷ hs) (g ∷ gs)

-- entries are the same to each start without a fault on the floor
abbrev pub AreSameOn : Floor → List Held → List Held → Type 0
AreSameOn f hs gs = (q : ℕ) → fault_at f.faults q ≡ None → AreSameAt q hs gs

-- a look under the token behind `index` tokens: of the starts without a fault those over whose state the token errs get this
-- error as their fault, and no others
pub record Looks (t : Tables) (token : TextToken) (index : ℕ) (states : ℕ → Option ℕ) (f g : Floor) : Type 0 where
  pub same : g.opened ≡ f.opened
  pub stays : (q : ℕ) (fault : Fault) → fault_at f.faults q ≡ Some fault → fault_at g.faults q ≡ Some fault
  pub dies : (q z : ℕ) → fault_at f.faults q ≡ None → states q ≡ Some z → act_in t z token.id ≡ Error → fault_at g.faults q ≡ Some (record { start = q; index = index; token = token; state = z })
  pub lives : (q z : ℕ) → fault_at f.faults q ≡ None → states q ≡ Some z → act_in t z token.id ≢ Error → fault_at g.faults q ≡ None

-- what a piece does by moves it tells
abbrev pub DidTellsLaw : Type 0
DidTellsLaw = (t : Tables) (store : Store) (p : Piece) (w next : List TextToken) (moves : List Move) (s : List Entry) → Did t store p (w ++ next) next moves s → Tells t store p w next s
