-- The LR machine. It stands over a base state and has a stack of entries above it: a symbol, a tree of that symbol, and
-- the state that the tables lead to from the state below along the symbol. Under the first token of its input it makes
-- the move that the action of the state on top says: a shift takes the token from the input and pushes it; a reduction
-- takes as many entries as the rule's right side has symbols, makes a node of their trees, and pushes the rule's name.
-- The end mark is one more token of the input. Over the base state 0 it is the machine of a whole parse; over another it
-- is the machine above the lower part of a stack.
-- Source: Knuth, On the Translation of Languages from Left to Right, 1965; Aho and Ullman, The Theory of Parsing,
-- Translation, and Compiling, volume 1, section 5.2.
use Rattle.std.specs.Prelude.{◌≡◌, ℕ, List, [], ◌∷◌, ◌++◌, length, Some}
use Rattle.grammar_data.specs.declared.rule.Sym.{Sym}
use Rattle.grammar_data.specs.declared.rule.Sym.TheVariants.{Token, Name}
use Rattle.grammar_data.specs.declared.token.Token.{Token as TextToken}
use Rattle.grammar_theory.specs.Rules.{IsRule}
use Rattle.grammar_theory.specs.Trees.{Tree, Leaf, Node, Forest, NoTree, FirstTree, yield, IsTree}
use Rattle.table_data.specs.declared.act.Act.TheVariants.{Shift, Reduce, Accept, Error}
use Rattle.table_data.specs.Tables.{Tables, act_in, goto_in, step_by}

-- an entry of a stack
pub record Entry : Type 0 where
  pub symbol : Sym
  pub tree : Tree
  pub state : ℕ

-- a stack is a list of entries, the top first; this is the state on top of it
abbrev pub top : ℕ → List Entry → ℕ
top base [] = base
top base (e ∷ s) = e.state

-- the symbols of a stack, the top's last
abbrev pub symbols : List Entry → List Sym
symbols [] = []
symbols (e ∷ s) = symbols s ++ e.symbol ∷ []

-- the trees of a stack, the top's last, in front of other trees
abbrev pub forest_onto : List Entry → Forest → Forest
forest_onto [] trees = trees
forest_onto (e ∷ s) trees = forest_onto s (FirstTree e.tree trees)

-- the tokens of the trees of a stack, from left to right
abbrev pub tokens_of : List Entry → List TextToken
tokens_of [] = []
tokens_of (e ∷ s) = tokens_of s ++ yield e.tree

-- a valid stack
pub data IsStack (t : Tables) (base : ℕ) : List Entry → Type 0 where
  bottom : IsStack t base []
  pushed : {e : Entry} {s : List Entry} → IsStack t base s → IsTree t.rules e.symbol e.tree → step_by t (top base s) e.symbol ≡ Some e.state → IsStack t base (e ∷ s)

-- the entry of a token that is shifted, with the state that is shifted to
abbrev pub shifted : TextToken → ℕ → Entry
shifted token p = record { symbol = Token token.id; tree = Leaf token; state = p }

-- the entry of a reduction by rule `r` of the name `n`, with the state that is gone to
abbrev pub reduced : ℕ → ℕ → List Entry → ℕ → Entry
reduced r n taken p = record { symbol = Name n; tree = Node r (forest_onto taken NoTree); state = p }

-- a reduction under the token `a`
pub data Reduces (t : Tables) (base a : ℕ) (s : List Entry) : List Entry → Type 0 where
  reduces : {r n p : ℕ} {right : List Sym} (taken rest : List Entry) {next : List Entry} → act_in t (top base s) a ≡ Reduce r → IsRule t.rules r n right → s ≡ taken ++ rest → length taken ≡ length right → goto_in t (top base rest) n ≡ Some p → next ≡ reduced r n taken p ∷ rest → Reduces t base a s next

-- moves lead from one stack and input to another
pub data Reaches (t : Tables) (base : ℕ) : List Entry → List TextToken → List Entry → List TextToken → Type 0 where
  here : {s : List Entry} {u : List TextToken} → Reaches t base s u s u
  after_reduction : {s next last : List Entry} {token : TextToken} {u v : List TextToken} → Reduces t base token.id s next → Reaches t base next (token ∷ u) last v → Reaches t base s (token ∷ u) last v
  after_shift : {s last : List Entry} {token : TextToken} {u v : List TextToken} {p : ℕ} → act_in t (top base s) token.id ≡ Shift p → Reaches t base (shifted token p ∷ s) u last v → Reaches t base s (token ∷ u) last v

-- reductions under the token `a` lead to a shift of it, or to an acceptance
pub data Settles (t : Tables) (base a : ℕ) : List Entry → Type 0 where
  shift_comes : {s : List Entry} {p : ℕ} → act_in t (top base s) a ≡ Shift p → Settles t base a s
  accept_comes : {s : List Entry} → act_in t (top base s) a ≡ Accept → Settles t base a s
  after_one : {s next : List Entry} → Reduces t base a s next → Settles t base a next → Settles t base a s

-- moves lead to an error: the state on top errs on the token at this index of the input
pub record Errs (t : Tables) (base : ℕ) (s : List Entry) (u : List TextToken) (index : ℕ) (token : TextToken) (state : ℕ) : Type 0 where
  pub stack : List Entry
  pub before : List TextToken
  pub later : List TextToken
  pub parts : u ≡ before ++ token ∷ later
  pub at : length before ≡ index
  pub reached : Reaches t base s u stack (token ∷ later)
  pub state_on_top : top base stack ≡ state
  pub error : act_in t state token.id ≡ Error

-- a whole run over the tokens and the end mark, from state 0 alone, accepts this tree
pub record Accepts (t : Tables) (tokens : List TextToken) (end : TextToken) (tree : Tree) : Type 0 where
  pub symbol : Sym
  pub state : ℕ
  pub reached : Reaches t 0 [] (tokens ++ end ∷ []) (record { symbol = symbol; tree = tree; state = state } ∷ []) (end ∷ [])
  pub accept : act_in t state end.id ≡ Accept

-- a whole run errs
abbrev pub Rejects : Tables → List TextToken → TextToken → ℕ → TextToken → ℕ → Type 0
Rejects t tokens end index token state = Errs t 0 [] (tokens ++ end ∷ []) index token state
