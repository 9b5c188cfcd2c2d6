-- A leaf: a piece while it is made of tokens from left to right, with the moves that it stands for so far. From each context
-- the machine makes these moves, or some of them, and errs; what it then has is what the piece, applied to the context, says.
-- Some start is alive; or no stack is a context, and the piece has one token.
-- Source: as of pieces.
use Rattle.std.specs.Prelude.{◌≡◌, ◌≢◌, ℕ, List, ◌++◌, length, Some, IsSome}
use Rattle.grammar_data.specs.declared.token.Token.{Token as TextToken}
use Rattle.tree_theory.specs.Stores.{Store}
use Rattle.table_data.specs.declared.act.Act.TheVariants.{Error}
use Rattle.table_data.specs.Tables.{Tables, act_in}
use Rattle.machine_theory.specs.Machine.{Entry}
use Rattle.map_theory.specs.Maps.{StateMap, target}
use Rattle.part_theory.specs.Moves.{Move}
use Rattle.part_theory.specs.Parts.{IsContext}
use Rattle.piece_theory.specs.Pieces.{Floor, Held, Piece}
use Rattle.piece_theory.specs.Applies.{TakesRight}
use Rattle.arm_laws.specs.Did.{Did}
use Rattle.level_laws.specs.Growing.{IsGrowing}

-- the piece is that of the tokens `w` so far; `next` has the token that is looked at, or nothing
pub record IsLeaf (t : Tables) (store : Store) (p : Piece) (w next : List TextToken) (lower : List Floor) (f : Floor) (under : List Held) (h : Held) (stale : ℕ) : Type 0 where
  pub growing : IsGrowing t store p lower f under h stale
  pub moves : List Move
  pub did : (s : List Entry) → IsContext t p.first.id s → Did t store p (w ++ next) next moves s
  pub right : TakesRight t p

-- an open piece: from each context the machine has made some moves, from another one maybe others, and what it has is what
-- the piece says. A leaf is one, and so is a closed or joined piece under the token that follows it
pub record IsOpenPiece (t : Tables) (store : Store) (p : Piece) (w next : List TextToken) (lower : List Floor) (f : Floor) (under : List Held) (h : Held) (stale : ℕ) : Type 0 where
  pub growing : IsGrowing t store p lower f under h stale
  pub did : (s : List Entry) → IsContext t p.first.id s → (moves : List Move) × Did t store p (w ++ next) next moves s
  pub right : TakesRight t p

-- some start of the last floor is alive, or there is no context at all, and one token
pub data HasStart (t : Tables) (p : Piece) (w : List TextToken) (f : Floor) : Type 0 where
  start_alive : (q : ℕ) → IsSome (target f.starts q) → HasStart t p w f
  none_begins : ((s : List Entry) → ¬ (IsContext t p.first.id s)) → length w ≡ 1 → HasStart t p w f

-- no target errs on the token
abbrev pub NoneErrs : Tables → ℕ → StateMap → Type 0
NoneErrs t a m = (q z : ℕ) → target m q ≡ Some z → act_in t z a ≢ Error
