-- What the end of a parse from unknown contexts gives is what the whole run from state 0 gives: its error, or its tree.
use Rattle.std.specs.Prelude.{◌≡◌, ℕ, List, [], ◌∷◌, length, Contains, Some, IsSome}
use Rattle.grammar_data.specs.declared.token.Token.{Token as TextToken}
use Rattle.grammar_theory.specs.Trees.{Tree}
use Rattle.node_data.specs.declared.kid.Kid.{Kid}
use Rattle.node_data.specs.declared.kid.Kid.TheVariants.{Hidden}
use Rattle.tree_theory.specs.Stores.{Store, Shows}
use Rattle.tree_theory.specs.Walks.{Step, WalksAll, tokens_in}
use Rattle.table_data.specs.declared.act.Act.TheVariants.{Accept, Error}
use Rattle.table_data.specs.Tables.{Tables, act_in}
use Rattle.machine_theory.specs.Machine.{Accepts, Rejects}
use Rattle.map_theory.specs.Maps.{target}
use Rattle.use_theory.specs.Distinct.{IsDistinct}
use Rattle.piece_theory.specs.Pieces.{Fault, Floor, Held, Piece, fault_at, kids_of}
use Rattle.piece_theory.specs.Applies.{nowhere, Tells}
use Rattle.join_theory.specs.Faults.{state_over}
use Rattle.finish_theory.specs.Endings.{IsGround, IsEnding}

-- no piece is to come, and the end mark is the next token
pub record IsClosing (t : Tables) (store : Store) (p : Piece) (e : Floor) (w : List TextToken) (end : TextToken) : Type 0 where
  pub ground : IsGround p e
  pub steps : List Step
  pub tells : Tells t store p w (end ∷ []) []
  pub visible : Contains {X = Kid} (kids_of p.stack) Hidden → ⊥
  pub walk : WalksAll store nowhere 0 (kids_of p.stack) steps
  pub yields : tokens_in steps ≡ w
  pub each_once : IsDistinct store [] steps

abbrev pub ClosingLaw : Type 0
ClosingLaw = (t : Tables) (store : Store) (p : Piece) (e : Floor) (w : List TextToken) (end : TextToken) → IsEnding t store p e [] w → IsClosing t store p e w end

-- a fault of state 0 is the error of the whole run, whatever pieces are still to come
abbrev pub FaultLaw : Type 0
FaultLaw = (t : Tables) (store : Store) (p : Piece) (e : Floor) (rest : List Piece) (w : List TextToken) (end : TextToken) (x : Fault) → IsEnding t store p e rest w → fault_at e.faults 0 ≡ Some x → Rejects t w end x.index x.token x.state

abbrev pub ClosingFaultLaw : Type 0
ClosingFaultLaw = (t : Tables) (store : Store) (p : Piece) (e : Floor) (w : List TextToken) (end : TextToken) (x : Fault) → IsClosing t store p e w end → fault_at e.faults 0 ≡ Some x → Rejects t w end x.index x.token x.state

-- and so is an error of the state over the entries, on the next piece's first token or on the end mark
abbrev pub StopLaw : Type 0
StopLaw = (t : Tables) (store : Store) (p right : Piece) (e : Floor) (rest : List Piece) (w : List TextToken) (end : TextToken) (z : ℕ) (ending : IsEnding t store p e (right ∷ rest) w) → IsSome (target e.starts 0) → state_over e.starts p.stack 0 ≡ Some z → act_in t z right.first.id ≡ Error → Rejects t w end (length ending.tokens) right.first z

abbrev pub ClosingStopLaw : Type 0
ClosingStopLaw = (t : Tables) (store : Store) (p : Piece) (e : Floor) (w : List TextToken) (end : TextToken) (z : ℕ) → IsClosing t store p e w end → IsSome (target e.starts 0) → state_over e.starts p.stack 0 ≡ Some z → act_in t z end.id ≡ Error → Rejects t w end (length w) end z

-- where the one entry's state accepts the end mark, its kid shows the tree that the whole run accepts
abbrev pub AcceptLaw : Type 0
AcceptLaw = (t : Tables) (store : Store) (p : Piece) (e : Floor) (h : Held) (w : List TextToken) (end : TextToken) (q : ℕ) → IsClosing t store p e w end → IsSome (target e.starts 0) → p.stack ≡ h ∷ [] → target h.states 0 ≡ Some q → act_in t q end.id ≡ Accept → (tree : Tree) × Accepts t w end tree × Shows store [] nowhere 0 h.kid tree

-- the whole run accepts one tree at most, and none where it errs
abbrev pub OneEndLaw : Type 0
OneEndLaw = (t : Tables) (w : List TextToken) (end : TextToken) (tree other : Tree) → Accepts t w end tree → (Accepts t w end other → tree ≡ other) × ((index : ℕ) (token : TextToken) (state : ℕ) → Rejects t w end index token state → ⊥)
