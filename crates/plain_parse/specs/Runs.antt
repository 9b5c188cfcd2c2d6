-- What stands at a moment of a parse. The input of a whole run is the tokens and behind them the end mark. The lists of a parse
-- hold the machine's stack: the base state 0 and the state of each entry, and for each entry a kid that shows its tree with
-- nothing supplied. The store has the nodes of these trees and no other.
-- Source: Knuth, On the Translation of Languages from Left to Right, 1965; Aho and Ullman, The Theory of Parsing,
-- Translation, and Compiling, volume 1, section 5.2.
use Rattle.std.specs.Prelude.{◌≡◌, ◌≢◌, ℕ, ◌+◌, ◌-◌, ◌^◌, ◌<◌, ◌≤◌, List, [], ◌∷◌, ◌++◌, length, take, drop, slice_index, slice_index_or, Some}
use Rattle.grammar_data.specs.declared.rule.Sym.{Sym}
use Rattle.grammar_data.specs.declared.token.Token.{Token as TextToken}
use Rattle.grammar_theory.specs.Rules.{IsRule}
use Rattle.grammar_theory.specs.Trees.{nodes}
use Rattle.table_data.specs.declared.act.Act.{Act}
use Rattle.table_data.specs.declared.act.Act.TheVariants.{Reduce}
use Rattle.table_data.specs.Tables.{Tables, act_in, goto_in}
use Rattle.machine_theory.specs.Machine.{Entry, IsStack, Reaches}
use Rattle.node_data.specs.declared.kid.Kid.{Kid}
use Rattle.node_data.specs.declared.kid.Kid.TheVariants.{Node as NodeKid}
use Rattle.tree_theory.specs.Stores.{Ref, Store, Shows}
use Rattle.node_store.specs.Chunks.{StoresNode, node_count_in, numbers_in, store_of}
use Rattle.plain_parse.specs.declared.run.Run.{Run}

-- the end mark as a token of the input; its place says nothing
abbrev pub end_of : Tables → TextToken
end_of t = record { id = t.tokens; place = record { line = 0; start = 0; len = 0 } }

-- the input of a whole run
abbrev pub input_of : Tables → List TextToken → List TextToken
input_of t tokens = tokens ++ end_of t ∷ []

-- the number of the token of the input at an index
abbrev pub token_of : Tables → List TextToken → ℕ → ℕ
token_of t tokens index = (slice_index_or (input_of t tokens) index (end_of t)).id

-- the base state and the states of a stack, the top's last
abbrev pub states_of : List Entry → List ℕ
states_of [] = 0 ∷ []
states_of (e ∷ s) = states_of s ++ e.state ∷ []

-- how many inner nodes the trees of a stack have
abbrev pub nodes_on : List Entry → ℕ
nodes_on [] = 0
nodes_on (e ∷ s) = nodes_on s + nodes e.tree

-- kids show the trees of a stack, the top's last
pub data ShowsStack (store : Store) : List Entry → List Kid → Type 0 where
  shows_bottom : ShowsStack store [] []
  shows_entry : {e : Entry} {s : List Entry} {below kids : List Kid} {kid : Kid} → ShowsStack store s below → ((n : Ref) (i : ℕ) → Shows store [] n i kid e.tree) → kids ≡ below ++ kid ∷ [] → ShowsStack store (e ∷ s) kids

-- the parse has come to this index of the input
pub record IsRun (t : Tables) (tokens : List TextToken) (index : ℕ) (run : Run) : Type 0 where
  pub stack : List Entry
  pub is_stack : IsStack t 0 stack
  pub states : run.states.items ≡ states_of stack
  pub shown : ShowsStack (store_of run.store) stack run.kids.items
  pub count : node_count_in run.store ≡ nodes_on stack
  pub chunks : numbers_in run.store ≡ 0 ∷ []
  pub reached : Reaches t 0 [] (input_of t tokens) stack (drop index (input_of t tokens))

-- a parse that has read nothing
pub record IsStart (run : Run) : Type 0 where
  pub states : run.states.items ≡ 0 ∷ []
  pub kids : run.kids.items ≡ []
  pub count : node_count_in run.store ≡ 0
  pub chunks : numbers_in run.store ≡ 0 ∷ []

-- the state on top
abbrev pub top_of : Run → ℕ
top_of run = slice_index run.states.items (length run.states.items - 1)

-- the action of the state on top under the token of the input at an index is no reduction
pub record IsSettled (t : Tables) (tokens : List TextToken) (index : ℕ) (run : Run) (act : Act) : Type 0 where
  pub is_act : act ≡ act_in t (top_of run) (token_of t tokens index)
  pub no_reduction : (r : ℕ) → act ≢ Reduce r

-- the lists fit a reduction by a rule that has so many symbols on its right side, and that leads to this state
pub record FitsReduction (t : Tables) (r : ℕ) (run : Run) (size state : ℕ) : Type 0 where
  pub name : ℕ
  pub right : List Sym
  pub rule : IsRule t.rules r name right
  pub symbols : length right ≡ size
  pub enough : size ≤ length run.kids.items
  pub level : length run.states.items ≡ length run.kids.items + 1
  pub within : slice_index run.states.items (length run.kids.items - size) < t.states
  pub goes : goto_in t (slice_index run.states.items (length run.kids.items - size)) name ≡ Some state
  pub chunks : numbers_in run.store ≡ 0 ∷ []

abbrev pub IsReducible : Tables → ℕ → Run → Type 0
IsReducible t r run = (size : ℕ) × (state : ℕ) × FitsReduction t r run size state

-- a reduction was made: a node by the rule has the kids on top as its kids, in their order
pub record IsReduced (r size state : ℕ) (old new : Run) : Type 0 where
  pub node : Ref
  pub states : new.states.items ≡ take (length old.states.items - size) old.states.items ++ state ∷ []
  pub kids : new.kids.items ≡ take (length old.kids.items - size) old.kids.items ++ NodeKid node ∷ []
  pub stores : StoresNode (store_of old.store) (store_of new.store) r (drop (length old.kids.items - size) old.kids.items) node
  pub count : node_count_in new.store ≡ node_count_in old.store + 1
  pub few : node_count_in old.store < 2 ^ 64 - 1
  pub chunks : numbers_in new.store ≡ 0 ∷ []

-- the reduction by the rule that fits was made
abbrev pub IsReducedBy : Tables → ℕ → Run → Run → Type 0
IsReducedBy t r old new = (size state : ℕ) → FitsReduction t r old size state → IsReduced r size state old new

-- one kid is left, which is a node
abbrev pub HasRoot : Run → Type 0
HasRoot run = (root : Ref) × (run.kids.items ≡ NodeKid root ∷ [])
