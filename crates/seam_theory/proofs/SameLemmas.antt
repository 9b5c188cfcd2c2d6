-- Pieces in a store that has the nodes of their walk.
use Rattle.std.proofs.Common.{◌≡◌, ℕ, zero, suc, ◌<◌, List, [], ◌∷◌, reverse, map, length, slice_index_or, All, Option, refl, ap, ◌∙◌, subst, arith}
use Rattle.grammar_data.specs.declared.rule.Sym.{Sym}
use Rattle.grammar_data.specs.declared.token.Token.{Token as TextToken}
use Rattle.grammar_data.specs.Grammar.{Rule}
use Rattle.node_data.specs.declared.kid.Kid.{Kid}
use Rattle.tree_theory.specs.Stores.{Ref, Store, Supply}
use Rattle.tree_theory.specs.Walks.{Step, Walks, walks_node, WalksAll, walks_none, walks_more}
use Rattle.table_data.specs.Tables.{Tables}
use Rattle.machine_theory.specs.Machine.{Entry}
use Rattle.use_theory.specs.Counts.{count_in, times}
use Rattle.use_theory.specs.Kept.{IsSame}
use Rattle.use_theory.proofs.CountLemmas.{same_self}
use Rattle.use_theory.proofs.KeptLemmas.{same_first, same_rest, walks_all_on, shows_on}
use Rattle.piece_theory.specs.Pieces.{Opened, Held, Piece, openings, floor_nodes, kids_of}
use Rattle.piece_theory.specs.Applies.{HasSymbol, token_symbol, node_symbol, nowhere, Puts, put_all, puts, Tells, tells_error, tells_stack, StandsFor}
use Rattle.piece_theory.specs.WellMade.{HasHidden, AreSteps, no_step, step_on, IsMade}
use Rattle.piece_theory.specs.Lists.{ArePieces, no_piece, piece_first}
use Rattle.join_theory.proofs.PutLemmas.{symbol_shown}
use Rattle.joined_laws.proofs.EdgeLemmas.{walk_moved}
use Rattle.joined_laws.proofs.NodeLemmas.{count_reverse}
use Rattle.joined_laws.proofs.JoiningLemmas.{spine_has}
use Rattle.seam_theory.specs.Same.{MadeSameLaw, StandsSameLaw, PiecesSameLaw}

-- the symbol of a kid whose walk is the same
symbol_same : {rules : List Rule} {store new : Store} {n : Ref} {i : ℕ} {kid : Kid} {steps : List Step} → IsSame store new steps → Walks store n i kid steps → {x : Sym} → HasSymbol rules store kid x → HasSymbol rules new kid x
symbol_same same walk token_symbol = token_symbol
symbol_same {store = store} {new = new} same (walks_node {m = m} {inner = inner} kids1 at1 all to) (node_symbol kids at rule) =
    node_symbol kids (same m (let one = same_self m in let sum = ap (times m) to in omega (arith, sum, one)) ∙ at) rule

puts_same : {rules : List Rule} {store new : Store} {supply : Supply} {q : ℕ} {hs : List Held} {s last : List Entry} → Puts rules store supply q hs s last → (i : ℕ) (kids : List Kid) (steps : List Step) → kids ≡ kids_of hs → IsSame store new steps → WalksAll store nowhere i kids steps → Puts rules new supply q hs s last
puts_same put_all i kids steps e same walk = put_all
puts_same {rules} {store} {new} {supply} (puts {h = h} {hs = hs} {x = x} {tree = tree} symbol shown to rest) i [] steps e same walks_none = absurd (cc)
puts_same {rules} {store} {new} {supply} (puts {h = h} {hs = hs} {x = x} {tree = tree} symbol shown to rest) i (kid ∷ kids) steps e same (walks_more {first = first} {rest = more} one others at) =
    let is : kid ≡ h.kid = cc in
    let here : Walks store nowhere i h.kid first = subst (λ k. Walks store nowhere i k first) is one in
    let first_same = same_first {store = store} {new = new} first more same at in
    puts (symbol_same first_same here symbol) (shows_on (walk_moved nowhere 0 (symbol_shown symbol) here) first_same shown) to
    (puts_same rest (suc i) kids more (cc) (same_rest {store = store} {new = new} first more same at) others)

steps_same : {t : Tables} {store new : Store} {from : ℕ → Option ℕ} {hs : List Held} → AreSteps t store from hs → (i : ℕ) (kids : List Kid) (steps : List Step) → kids ≡ kids_of hs → IsSame store new steps → WalksAll store nowhere i kids steps → AreSteps t new from hs
steps_same no_step i kids steps e same walk = no_step
steps_same (step_on x symbol rising to rest) i [] steps e same walks_none = absurd (cc)
steps_same {t} {store} {new} (step_on {h = h} x symbol rising to rest) i (kid ∷ kids) steps e same (walks_more {first = first} {rest = more} one others at) =
    let is : kid ≡ h.kid = cc in
    let here : Walks store nowhere i h.kid first = subst (λ k. Walks store nowhere i k first) is one in
    step_on x (symbol_same (same_first {store = store} {new = new} first more same at) here symbol) rising to
    (steps_same rest (suc i) kids more (cc) (same_rest {store = store} {new = new} first more same at) others)

counted_at : (os : List Opened) (k : ℕ) (d : Opened) → k < length os → 0 < count_in (slice_index_or os k d).node (map (λ o. o.node) os)
counted_at [] k d inside = absurd (omega (arith, inside))
counted_at (o ∷ os) zero d inside = let one = same_self o.node in omega (arith, one)
counted_at (o ∷ os) (suc k) d inside = let more = counted_at os k d (omega (arith, inside)) in omega (arith, more)

nodes_same : {t : Tables} {store new : Store} {p : Piece} {w : List TextToken} {steps : List Step} → IsSame store new steps → IsMade t store p w steps → All {X = Opened} (HasHidden new) (openings p.floors)
nodes_same {p = p} same made k d inside =
    let has = made.nodes k d inside in
    let o = slice_index_or (openings p.floors) k d in
    let counted = counted_at (openings p.floors) k d inside in
    let reversed = count_reverse o.node (floor_nodes p.floors) in
    record { kids = has.kids; found = same o.node (spine_has (reverse (floor_nodes p.floors)) o.node made.spine (omega (arith, counted, reversed))) ∙ has.found; shown = has.shown }

pub made_same : {t : Tables} {store new : Store} {p : Piece} {w : List TextToken} {steps : List Step} → IsSame store new steps → IsMade t store p w steps → IsMade t new p w steps
made_same {steps = steps} same made = record {
  last = made.last;
  floors = made.floors;
  nodes = nodes_same same made;
  some_entry = made.some_entry;
  maps = steps_same made.maps 0 _ steps refl same made.walk;
  walk = walks_all_on made.walk same;
  yields = made.yields;
  later = made.later;
  begins = made.begins;
  counted = made.counted;
  spine = made.spine;
}

pub made_same_law : MadeSameLaw
made_same_law t store new p w steps same made = made_same same made

tells_same : {t : Tables} {store new : Store} {p : Piece} {u : List TextToken} {steps : List Step} → IsSame store new steps → IsMade t store p u steps → {w next : List TextToken} {s : List Entry} → Tells t store p w next s → Tells t new p w next s
tells_same same made (tells_error fails errs) = tells_error fails errs
tells_same {p = p} {steps = steps} same made (tells_stack leaves run) = tells_stack (record { rest = leaves.rest; supply = leaves.supply; down = leaves.down; up = puts_same leaves.up 0 (kids_of p.stack) steps refl same made.walk }) run

pub stands_same : {t : Tables} {store new : Store} {p : Piece} {w next : List TextToken} {steps : List Step} → IsSame store new steps → IsMade t store p w steps → StandsFor t store p w next → StandsFor t new p w next
stands_same same made stands s context = tells_same same made (stands s context)

pub stands_same_law : StandsSameLaw
stands_same_law t store new p w next steps same made stands = stands_same {next = next} same made stands

pub pieces_same : {t : Tables} {store new : Store} {next : List TextToken} {ps : List Piece} {w : List TextToken} {steps : List Step} → IsSame store new steps → ArePieces t store next ps w steps → ArePieces t new next ps w steps
pieces_same same no_piece = no_piece
pieces_same {store = store} {new = new} same (piece_first {first = first} {rest = rest} made stands takes stuck more parts walk) =
    let here = same_first {store = store} {new = new} first rest same walk in
    piece_first (made_same here made) (stands_same here made stands) takes stuck (pieces_same (same_rest {store = store} {new = new} first rest same walk) more) parts walk

pub pieces_same_law : PiecesSameLaw
pieces_same_law t store new next ps w steps same are = pieces_same same are
