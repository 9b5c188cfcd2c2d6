-- In a store that has more nodes a piece is what it was; and a piece has one list of tokens.
use Rattle.std.proofs.Common.{◌≡◌, ℕ, List, [], ◌∷◌, ◌++◌, Option, refl, sym, ap, ◌∙◌}
use Rattle.grammar_data.specs.declared.rule.Sym.{Sym}
use Rattle.grammar_data.specs.declared.token.Token.{Token as TextToken}
use Rattle.grammar_data.specs.Grammar.{Rule}
use Rattle.node_data.specs.declared.kid.Kid.{Kid}
use Rattle.tree_theory.specs.Stores.{Ref, Store, Supply}
use Rattle.tree_theory.specs.Walks.{Step, Walks, walks_token, walks_hidden, walks_node, WalksAll, walks_none, walks_more, tokens_in}
use Rattle.tree_theory.proofs.ShownLemmas.{grow_law}
use Rattle.tree_theory.proofs.WalkLemmas.{one_walk_law}
use Rattle.table_data.specs.Tables.{Tables}
use Rattle.machine_theory.specs.Machine.{Entry}
use Rattle.piece_theory.specs.Pieces.{Opened, Held, Piece}
use Rattle.piece_theory.specs.Applies.{HasSymbol, token_symbol, node_symbol, nowhere, Puts, put_all, puts, Tells, tells_error, tells_stack}
use Rattle.piece_theory.specs.WellMade.{HasHidden, AreSteps, no_step, step_on}
use Rattle.piece_theory.specs.Lists.{ArePieces, no_piece, piece_first}
use Rattle.piece_theory.specs.Laws.{HasMore, LeavesMoreLaw, StandsMoreLaw, MadeMoreLaw, OneYieldLaw, NoPieceLaw}

pub symbol_more : {rules : List Rule} {store more : Store} → HasMore store more → {kid : Kid} {x : Sym} → HasSymbol rules store kid x → HasSymbol rules more kid x
symbol_more has token_symbol = token_symbol
symbol_more has (node_symbol {m = m} {r = r} kids at rule) = node_symbol kids (has m r kids at) rule

pub puts_more : {rules : List Rule} {store more : Store} {supply : Supply} {q : ℕ} → HasMore store more → {hs : List Held} {s last : List Entry} → Puts rules store supply q hs s last → Puts rules more supply q hs s last
puts_more has put_all = put_all
puts_more {store = store} {more = more} {supply = supply} has (puts {h = h} {tree = tree} symbol shown to rest) =
    puts (symbol_more has symbol) (grow_law store more supply supply has (λ n trees here. here) nowhere 0 h.kid tree shown) to (puts_more has rest)

pub leaves_more_law : LeavesMoreLaw
leaves_more_law rules store more has p s last leaves = record { rest = leaves.rest; supply = leaves.supply; down = leaves.down; up = puts_more has leaves.up }

pub tells_more : {t : Tables} {store more : Store} → HasMore store more → {p : Piece} {w next : List TextToken} {s : List Entry} → Tells t store p w next s → Tells t more p w next s
tells_more has (tells_error fails errs) = tells_error fails errs
tells_more {t} {store} {more} has {p} {s = s} (tells_stack {last = last} leaves run) = tells_stack (leaves_more_law t.rules store more has p s last leaves) run

pub stands_more_law : StandsMoreLaw
stands_more_law t store more has p w next stands s context = tells_more has (stands s context)

mutual
  pub walk_more : {store more : Store} → HasMore store more → {n : Ref} {i : ℕ} {kid : Kid} {steps : List Step} → Walks store n i kid steps → Walks more n i kid steps
  walk_more has walks_token = walks_token
  walk_more has walks_hidden = walks_hidden
  walk_more has (walks_node {m = m} {r = r} kids at all to) = walks_node kids (has m r kids at) (walk_all_more has all) to

  pub walk_all_more : {store more : Store} → HasMore store more → {n : Ref} {i : ℕ} {kids : List Kid} {steps : List Step} → WalksAll store n i kids steps → WalksAll more n i kids steps
  walk_all_more has walks_none = walks_none
  walk_all_more has (walks_more first rest to) = walks_more (walk_more has first) (walk_all_more has rest) to

pub steps_more : {t : Tables} {store more : Store} → HasMore store more → {from : ℕ → Option ℕ} {hs : List Held} → AreSteps t store from hs → AreSteps t more from hs
steps_more has no_step = no_step
steps_more has (step_on x symbol rising to rest) = step_on x (symbol_more has symbol) rising to (steps_more has rest)

hidden_more : {store more : Store} → HasMore store more → (o : Opened) → HasHidden store o → HasHidden more o
hidden_more has o of = record { kids = of.kids; found = has o.node o.rule _ of.found; shown = of.shown }

pub made_more_law : MadeMoreLaw
made_more_law t store more has p w steps made = record {
  last = made.last;
  floors = made.floors;
  nodes = λ k d inside. hidden_more has _ (made.nodes k d inside);
  some_entry = made.some_entry;
  maps = steps_more has made.maps;
  walk = walk_all_more has made.walk;
  yields = made.yields;
  later = made.later;
  begins = made.begins;
  counted = made.counted;
  spine = made.spine;
}

-- ---- tokens

pub one_walk_all : {store : Store} {n : Ref} {i : ℕ} {kids : List Kid} {steps : List Step} → WalksAll store n i kids steps → {others : List Step} → WalksAll store n i kids others → steps ≡ others
one_walk_all walks_none walks_none = refl
one_walk_all {store} (walks_more {n = n} {i = i} {kid = kid} {first = first} {rest = rest} one all to) (walks_more {first = other} {rest = more} two all1 too) =
    let same : first ≡ other = one_walk_law store n i kid first other one two in
    to ∙ ap (λ l. l ++ rest) same ∙ ap (λ l. other ++ l) (one_walk_all all all1) ∙ sym too

pub one_yield_law : OneYieldLaw
one_yield_law t store p w other steps more made made1 =
    let same = one_walk_all made.walk made1.walk in
    (sym made.yields ∙ ap tokens_in same ∙ made1.yields, same)

no_token : {x : TextToken} {w u later : List TextToken} (v : List TextToken) → w ≡ [] → w ≡ u ++ v → u ≡ x ∷ later → ⊥
no_token {x} v none parts begins = contradiction (sym none ∙ parts ∙ ap (λ l. l ++ v) begins)
  where
    contradiction : {l : List TextToken} → [] ≡ x ∷ l → ⊥
    contradiction e = cc

empty : {t : Tables} {store : Store} {next : List TextToken} {ps : List Piece} {w : List TextToken} {steps : List Step} → ArePieces t store next ps w steps → w ≡ [] → (ps ≡ []) × (steps ≡ [])
empty no_piece e = (refl, refl)
empty (piece_first {v = v} made stands right stuck rest tokens walk) e = absurd (no_token v e tokens made.begins)

pub no_piece_law : NoPieceLaw
no_piece_law t store next ps steps are = empty are refl
