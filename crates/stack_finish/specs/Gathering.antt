-- A parse from the known start that is gathered from pieces, as the theory of the end of a parse has it: a piece that has one
-- floor, with the start 0 alone, and an entry for each kid, over which that start has one state.
use Rattle.std.specs.Prelude.{◌≡◌, ℕ, ◌+◌, ◌-◌, ◌^◌, ◌<◌, ◌≤◌, List, [], ◌∷◌, ◌++◌, length, take, drop, Contains, Some, None}
use Rattle.grammar_data.specs.declared.rule.Sym.{Sym}
use Rattle.grammar_data.specs.declared.token.Token.{Token as TextToken}
use Rattle.grammar_theory.specs.Rules.{IsRule}
use Rattle.node_data.specs.declared.kid.Kid.{Kid}
use Rattle.node_data.specs.declared.kid.Kid.TheVariants.{Node as NodeKid, Hidden}
use Rattle.tree_theory.specs.Stores.{Ref, Store}
use Rattle.tree_theory.specs.Walks.{Step, WalksAll, tokens_in}
use Rattle.table_data.specs.Tables.{Tables, goto_in}
use Rattle.use_theory.specs.Distinct.{IsDistinct}
use Rattle.use_theory.specs.Kept.{IsKept}
use Rattle.piece_theory.specs.Pieces.{Floor, Held, Piece}
use Rattle.piece_theory.specs.Applies.{nowhere, Tells}
use Rattle.node_store.specs.Chunks.{StoresNode, node_count_in, numbers_in, store_of}
use Rattle.finish_theory.specs.Endings.{IsEnding}
use Rattle.stack_finish.specs.declared.gathered.Gathered.{Gathered}

-- the floor of state 0 alone
abbrev pub ground : Floor
ground = record { opened = None; starts = (0, 0) ∷ []; faults = [] }

-- entries on it
abbrev pub entries_on : List Kid → List ℕ → List Held
entries_on [] states = []
entries_on (kid ∷ kids) [] = []
entries_on (kid ∷ kids) (q ∷ states) = record { kid = kid; states = (0, q) ∷ [] } ∷ entries_on kids states

-- the piece that they are. Its first token and its count say nothing
abbrev pub piece_on : List Kid → List ℕ → Piece
piece_on kids states = record { first = record { id = 0; place = record { line = 0; start = 0; len = 0 } }; count = 0; floors = ground ∷ []; stack = entries_on kids states }

-- the state over entries, where this one stands below them
abbrev pub last_state : ℕ → List ℕ → ℕ
last_state below [] = below
last_state below (q ∷ states) = last_state q states

-- the state on top
abbrev pub top_of : Gathered → ℕ
top_of s = last_state 0 s.states.items

-- the entries have these tokens, and this one is looked at; the nodes of floors and the walk of all else that the store has
-- stand beside it
pub record IsUnder (t : Tables) (store : Store) (kids : List Kid) (states : List ℕ) (tokens : List TextToken) (token : TextToken) (nodes : List Ref) (behind : List Step) : Type 0 where
  pub even : length states ≡ length kids
  pub tells : Tells t store (piece_on kids states) tokens (token ∷ []) []
  pub visible : Contains {X = Kid} kids Hidden → ⊥
  pub steps : List Step
  pub walk : WalksAll store nowhere 0 kids steps
  pub yields : tokens_in steps ≡ tokens
  pub each_once : IsDistinct store nodes (steps ++ behind)

-- how many tokens pieces have
abbrev pub token_total : List Piece → ℕ
token_total [] = 0
token_total (p ∷ ps) = p.count + token_total ps

-- between two pieces: those so far are gathered, and these are still to come; the nodes of a store are kept
pub record IsGathered (t : Tables) (base : Store) (s : Gathered) (rest : List Piece) (w : List TextToken) : Type 0 where
  pub kept : IsKept base (store_of s.store)
  pub even : length s.states.items ≡ length s.kids.items
  pub ending : IsEnding t (store_of s.store) (piece_on s.kids.items s.states.items) ground rest w
  pub counted : s.count + token_total rest ≡ length w

-- the entries fit a reduction by a rule that has so many symbols on its right side, and that leads to this state
pub record FitsReduction (t : Tables) (r : ℕ) (s : Gathered) (size state : ℕ) : Type 0 where
  pub name : ℕ
  pub right : List Sym
  pub rule : IsRule t.rules r name right
  pub symbols : length right ≡ size
  pub even : length s.states.items ≡ length s.kids.items
  pub enough : size ≤ length s.kids.items
  pub within : last_state 0 (take (length s.states.items - size) s.states.items) < t.states
  pub goes : goto_in t (last_state 0 (take (length s.states.items - size) s.states.items)) name ≡ Some state

abbrev pub CanReduce : Tables → ℕ → Gathered → Type 0
CanReduce t r s = (size : ℕ) × (state : ℕ) × FitsReduction t r s size state

-- a reduction was made: a node by the rule has the kids on top as its kids, in their order
pub record IsReduced (r size state : ℕ) (old new : Gathered) : Type 0 where
  pub node : Ref
  pub states : new.states.items ≡ take (length old.states.items - size) old.states.items ++ state ∷ []
  pub kids : new.kids.items ≡ take (length old.kids.items - size) old.kids.items ++ NodeKid node ∷ []
  pub stores : StoresNode (store_of old.store) (store_of new.store) r (drop (length old.kids.items - size) old.kids.items) node
  pub nodes : node_count_in new.store ≡ node_count_in old.store + 1
  pub few : node_count_in old.store < 2 ^ 64 - 1
  pub chunks : numbers_in new.store ≡ numbers_in old.store
  pub chunk : new.chunk ≡ old.chunk
  pub count : new.count ≡ old.count

-- the reduction by the rule that fits was made
abbrev pub IsReducedBy : Tables → ℕ → Gathered → Gathered → Type 0
IsReducedBy t r old new = (size state : ℕ) → FitsReduction t r old size state → IsReduced r size state old new
