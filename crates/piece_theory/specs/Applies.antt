-- Pieces on stacks, and what a piece stands for. A context of a piece is a valid stack whose top shifts its first token. A
-- piece is applied to a stack floor by floor, the first floor first. Of each floor that was opened the hidden symbols are
-- taken off the stack, and their trees in order become the hidden kids of its node. Where the state on top then has a fault
-- on the floor, the result is that fault. Behind the last floor the piece's entries are pushed on what is left, each with
-- the state that its map has for the state on top. A piece stands for tokens, followed by one more or by nothing, where in
-- every context the machine does what the result says: it errs with that fault, or it shifts the tokens and then, after
-- some reductions under the token that follows, has exactly that stack with these trees.
-- Source: as of pieces. That it speaks of all contexts, which no code computes, is this project's own.
use Rattle.std.specs.Prelude.{◌≡◌, ℕ, List, [], ◌∷◌, ◌++◌, length, take, slice_get, Option, Some, None}
use Rattle.grammar_data.specs.declared.rule.Sym.{Sym}
use Rattle.grammar_data.specs.declared.rule.Sym.TheVariants.{Token, Name}
use Rattle.grammar_data.specs.declared.token.Token.{Token as TextToken}
use Rattle.grammar_data.specs.Grammar.{Rule}
use Rattle.grammar_theory.specs.Rules.{IsRule}
use Rattle.grammar_theory.specs.Trees.{Tree}
use Rattle.node_data.specs.declared.kid.Kid.{Kid}
use Rattle.node_data.specs.declared.kid.Kid.TheVariants.{Token as TokenKid, Node as NodeKid}
use Rattle.tree_theory.specs.Stores.{Ref, Store, Supply, Shows}
use Rattle.table_data.specs.Tables.{Tables}
use Rattle.machine_theory.specs.Machine.{Entry, top, symbols, Reaches, Errs}
use Rattle.map_theory.specs.Maps.{target}
use Rattle.part_theory.specs.Parts.{IsContext}
use Rattle.piece_theory.specs.Pieces.{Fault, Opened, Floor, Held, Piece, fault_at, hidden_of}

-- the symbol of a kid: the token's, or the name of its node's rule
pub data HasSymbol (rules : List Rule) (store : Store) : Kid → Sym → Type 0 where
  token_symbol : {token : TextToken} → HasSymbol rules store (TokenKid token) (Token token.id)
  node_symbol : {m : Ref} {r n : ℕ} {right : List Sym} (kids : List Kid) → store m ≡ Some (r, kids) → IsRule rules r n right → HasSymbol rules store (NodeKid m) (Name n)

-- the right side of a rule that there is
abbrev pub right_side : Option Rule → List Sym
right_side None = []
right_side (Some rule) = rule.1

abbrev pub right_of : List Rule → ℕ → List Sym
right_of rules r = right_side (slice_get rules r)

-- the symbols that are hidden below a floor: the first ones of its rule's right side
abbrev pub hidden_symbols : List Rule → Option Opened → List Sym
hidden_symbols rules None = []
hidden_symbols rules (Some opened) = take opened.hidden (right_of rules opened.rule)

-- an entry's kid stands in no node: what isn't hidden shows the same wherever it stands
abbrev pub nowhere : Ref
nowhere = (0, 0)

-- the trees of entries, of which the top stands first, from the lowest to the top, in front of other trees
abbrev pub trees_onto : List Entry → List Tree → List Tree
trees_onto [] trees = trees
trees_onto (e ∷ s) trees = trees_onto s (e.tree ∷ trees)

-- what the entries that a floor takes supply: the hidden kids of its node
abbrev pub supply_of : Option Opened → List Entry → Supply
supply_of None taken = []
supply_of (Some opened) taken = (opened.node, trees_onto taken []) ∷ []

-- the floors let the stack through: what is left of it below the last floor, and what is supplied
pub data Falls : List Floor → List Entry → List Entry → Supply → Type 0 where
  through : {s : List Entry} → Falls [] s s []
  falls : {f : Floor} {fs : List Floor} {s rest : List Entry} {given supply : Supply} (taken below : List Entry) → s ≡ taken ++ below → length taken ≡ hidden_of f.opened → fault_at f.faults (top 0 below) ≡ None → Falls fs below rest given → supply ≡ supply_of f.opened taken ++ given → Falls (f ∷ fs) s rest supply

-- a floor has a fault for the stack, and the floors before it let the stack through
pub data Fails : List Floor → List Entry → Fault → Type 0 where
  fails_here : {f : Floor} {fs : List Floor} {s : List Entry} {fault : Fault} (taken below : List Entry) → s ≡ taken ++ below → length taken ≡ hidden_of f.opened → fault_at f.faults (top 0 below) ≡ Some fault → Fails (f ∷ fs) s fault
  fails_below : {f : Floor} {fs : List Floor} {s : List Entry} {fault : Fault} (taken below : List Entry) → s ≡ taken ++ below → length taken ≡ hidden_of f.opened → fault_at f.faults (top 0 below) ≡ None → Fails fs below fault → Fails (f ∷ fs) s fault

-- the entries are pushed on a stack, one after the other, each with the state that its map has for the state `q`
pub data Puts (rules : List Rule) (store : Store) (supply : Supply) (q : ℕ) : List Held → List Entry → List Entry → Type 0 where
  put_all : {s : List Entry} → Puts rules store supply q [] s s
  puts : {h : Held} {hs : List Held} {s last : List Entry} {x : Sym} {tree : Tree} {p : ℕ} → HasSymbol rules store h.kid x → Shows store supply nowhere 0 h.kid tree → target h.states q ≡ Some p → Puts rules store supply q hs (record { symbol = x; tree = tree; state = p } ∷ s) last → Puts rules store supply q (h ∷ hs) s last

-- the piece, applied to the stack `s`, leaves the stack `last`
pub record Leaves (rules : List Rule) (store : Store) (p : Piece) (s last : List Entry) : Type 0 where
  pub rest : List Entry
  pub supply : Supply
  pub down : Falls p.floors s rest supply
  pub up : Puts rules store supply (top 0 rest) p.stack rest last

-- from the stack `s` the machine does with the tokens `w`, followed by at most one token in `next`, what the piece says
pub data Tells (t : Tables) (store : Store) (p : Piece) (w next : List TextToken) (s : List Entry) : Type 0 where
  tells_error : {fault : Fault} → Fails p.floors s fault → Errs t 0 s (w ++ next) fault.index fault.token fault.state → Tells t store p w next s
  tells_stack : {last : List Entry} → Leaves t.rules store p s last → Reaches t 0 s (w ++ next) last next → Tells t store p w next s

-- the piece stands for the tokens `w` followed by what is in `next`: one token, or nothing. With nothing behind them no
-- reduction follows the last shift, and no error has an index past the last token
abbrev pub StandsFor : Tables → Store → Piece → List TextToken → List TextToken → Type 0
StandsFor t store p w next = (s : List Entry) → IsContext t p.first.id s → Tells t store p w next s

-- the entries that each floor takes from the stack have its hidden symbols, as far as no floor before has a fault
pub data Fitted (rules : List Rule) : List Floor → List Entry → Type 0 where
  fitted_all : {s : List Entry} → Fitted rules [] s
  fitted : {f : Floor} {fs : List Floor} {s : List Entry} (taken below : List Entry) → s ≡ taken ++ below → length taken ≡ hidden_of f.opened → symbols taken ≡ hidden_symbols rules f.opened → (fault_at f.faults (top 0 below) ≡ None → Fitted rules fs below) → Fitted rules (f ∷ fs) s

-- the entries that floors take from a context are the first symbols of their rules
abbrev pub TakesRight : Tables → Piece → Type 0
TakesRight t p = (s : List Entry) → IsContext t p.first.id s → Fitted t.rules p.floors s
