-- A piece is put on the gathered entries: floor by floor, each supplied whole by the entries on top, and then its own entries.
use Rattle.std.specs.Prelude.{◌≡◌, ◌≢◌, ℕ, ◌+◌, ◌≤◌, List, [], ◌∷◌, ◌++◌, length, replicate, All, Option, Some, None}
use Rattle.grammar_data.specs.declared.rule.Sym.{Sym}
use Rattle.grammar_data.specs.declared.token.Token.{Token as TextToken}
use Rattle.grammar_theory.specs.Rules.{IsRule}
use Rattle.node_data.specs.declared.kid.Kid.{Kid}
use Rattle.node_data.specs.declared.kid.Kid.TheVariants.{Hidden}
use Rattle.tree_theory.specs.Stores.{Ref, Store}
use Rattle.table_data.specs.Tables.{Tables, act_in, goto_in, step_by}
use Rattle.table_data.specs.declared.act.Act.TheVariants.{Shift}
use Rattle.machine_theory.specs.Machine.{Errs}
use Rattle.use_theory.specs.Fills.{SuppliesPart}
use Rattle.piece_theory.specs.Pieces.{Fault, Opened, Floor, Piece}
use Rattle.piece_theory.specs.Applies.{HasSymbol}
use Rattle.piece_theory.specs.WellMade.{HasHidden}
use Rattle.node_store.specs.Chunks.{store_of}
use Rattle.finish_theory.specs.Endings.{IsEndPut}
use Rattle.stack_finish.specs.declared.gathered.Gathered.{Gathered}
use Rattle.stack_finish.specs.Gathering.{ground, piece_on, top_of, token_total, IsGathered}

-- the first kids of a node are hidden, so many that stay so and then so many more
pub record HidesMore (store : Store) (node : Ref) (still many : ℕ) : Type 0 where
  pub rule : ℕ
  pub further : List Kid
  pub found : store node ≡ Some (rule, replicate still Hidden ++ (replicate many Hidden ++ further))

-- there are as many entries as a floor takes, and its node has their hidden kids
pub record FitsFloor (store : Store) (kids : List Kid) (states : List ℕ) (opened : Opened) : Type 0 where
  pub even : length states ≡ length kids
  pub shown : All {X = Kid} (λ kid. kid ≢ Hidden) kids
  pub enough : opened.hidden ≤ length kids
  pub hides : HasHidden store opened

abbrev pub FitsOn : Store → List Kid → List ℕ → Option Opened → Type 0
FitsOn store kids states None = Unit {0}
FitsOn store kids states (Some opened) = FitsFloor store kids states opened

-- the kids that a floor takes become its node's hidden kids
abbrev pub IsSupplied : Store → Store → Option Opened → List Kid → Type 0
IsSupplied store new None taken = (new ≡ store) × (taken ≡ [])
IsSupplied store new (Some opened) taken = SuppliesPart store new opened.node 0 taken

-- some floors of the piece `right` are put on, which began in this store, and these are still to come
pub record IsPutting (t : Tables) (store : Store) (s : Gathered) (left right : Piece) (further : List Floor) (rest : List Piece) (w : List TextToken) : Type 0 where
  pub even : length s.states.items ≡ length s.kids.items
  pub on_ground : left.floors ≡ ground ∷ []
  pub put : IsEndPut t store (store_of s.store) left right (piece_on s.kids.items s.states.items) ground further rest w
  pub counted : s.count + (right.count + token_total rest) ≡ length w

-- all floors are put on; or a fault of one is the error of the whole text, so many tokens later
abbrev pub ComesThrough : Tables → Store → Gathered → Piece → Piece → List Piece → List TextToken → Option Fault → Type 0
ComesThrough t store s left right rest w None = IsPutting t store s left right [] rest w
ComesThrough t store s left right rest w (Some fault) = Errs t 0 [] w (s.count + fault.index) fault.token fault.state

-- a kid has a symbol, along which the tables lead from one state to another
pub record LeadsTo (t : Tables) (store : Store) (kid : Kid) (q p : ℕ) : Type 0 where
  pub symbol : Sym
  pub has : HasSymbol t.rules store kid symbol
  pub steps : step_by t q symbol ≡ Some p

-- the node of a kid: its rule, and where the tables go along its name
pub record GoesAlong (t : Tables) (store : Store) (m : Ref) (q p : ℕ) : Type 0 where
  pub rule : ℕ
  pub kids : List Kid
  pub name : ℕ
  pub right : List Sym
  pub found : store m ≡ Some (rule, kids)
  pub is : IsRule t.rules rule name right
  pub goes : goto_in t q name ≡ Some p

-- the tables lead from a state along the symbols of kids over these states
pub data AreAlong (t : Tables) (store : Store) : ℕ → List Kid → List ℕ → Type 0 where
  along_none : {q : ℕ} → AreAlong t store q [] []
  along_next : {q p : ℕ} {kid : Kid} {kids : List Kid} {states : List ℕ} → LeadsTo t store kid q p → AreAlong t store p kids states → AreAlong t store q (kid ∷ kids) (p ∷ states)

-- the next piece's first token is shifted; or it is the error of the whole text
abbrev pub IsReached : Tables → Store → Gathered → Piece → List Piece → List TextToken → Option Fault → Type 0
IsReached t base s right rest w None = IsGathered t base s (right ∷ rest) w × ((q : ℕ) × (act_in t (top_of s) right.first.id ≡ Shift q))
IsReached t base s right rest w (Some fault) = Errs t 0 [] w fault.index fault.token fault.state

-- the piece is put on; or an error of its tokens is that of the whole text
abbrev pub IsAfter : Tables → Store → Gathered → List Piece → List TextToken → Option Fault → Type 0
IsAfter t base s rest w None = IsGathered t base s rest w
IsAfter t base s rest w (Some fault) = Errs t 0 [] w fault.index fault.token fault.state
