use Rattle.std.proofs.Common.{◌≡◌, ◌-◌, ◌+◌, ℕ, List, length, take, drop, sym, ap, ◌∙◌, subst, arith}
use Rattle.node_data.specs.declared.kid.Kid.{Kid}
use Rattle.tree_theory.specs.Stores.{Ref}
use Rattle.use_theory.specs.Fills.{SuppliesPart}
use Rattle.piece_theory.specs.Pieces.{Opened}
use Rattle.node_store.specs.Chunks.{store_of}
use Rattle.stack_finish.specs.Putting.{HidesMore}
use Rattle.stack_join.specs.Landing.{IsCut, whole_supplied, part_supplied}
use Rattle.stack_join.proofs.SupplyLemmas.{from_place, fills_all, fills_last}
use Rattle.stack_join.proofs.landing.supply_opened.Goals as goal

pub fill-requires-clause-hidden : goal.fill-requires-clause-hidden
fill-requires-clause-hidden c =
    let node = ap (λ (o : Opened). o.node) c.opened.view_is in
    let hidden = ap (λ (o : Opened). o.hidden) c.opened.view_is in
    let held = c.len-held.ensures in
    let enough = c.if-hidden-held.true in
    let l = c.open_list.result.now in
    let n : ℕ = c.len-held.result - c.opened.inside.hidden in
    let all : n + c.args.opened.now.hidden ≡ length c.args.leaf.now.ids.items = omega (arith, hidden, held, enough) in
    subst (λ (m : Ref). HidesMore (store_of c.args.store.now) m 0 (length (take (length l - n) (drop n l)))) (sym node) (fills_all c.requires.can c.requires.has.even l c.open_list.ensures n all)

pub returns-then-hidden-held-clause-supplied : goal.returns-then-hidden-held-clause-supplied
returns-then-hidden-held-clause-supplied c =
    let s = c.args.leaf.now in
    let store = store_of c.args.store.now in
    let now = store_of c.fill.new.store in
    let maps = c.args.arrows.now.1 in
    let opened = c.args.opened.now in
    let node = ap (λ (o : Opened). o.node) c.opened.view_is in
    let hidden = ap (λ (o : Opened). o.hidden) c.opened.view_is in
    let held = c.len-held.ensures in
    let enough = c.if-hidden-held.true in
    let l = c.open_list.result.now in
    let n : ℕ = c.len-held.result - c.opened.inside.hidden in
    let place : n ≡ length s.ids.items - opened.hidden = omega (arith, hidden, held, enough) in
    let kids : take (length l - n) (drop n l) ≡ drop (length s.ids.items - opened.hidden) s.block.kids = from_place l n ∙ ap (λ k. drop k l) place ∙ ap (drop (length s.ids.items - opened.hidden)) c.open_list.ensures in
    whole_supplied (omega (arith, hidden, held, enough)) (subst (λ (k : ℕ). IsCut maps c.cut.new.arrows.1 s c.cut.new.leaf k) place c.in_ok-cut.ensures.cut)
    (subst (λ (m : Ref). SuppliesPart store now m 0 (drop (length s.ids.items - opened.hidden) s.block.kids)) node (subst (λ (k : List Kid). SuppliesPart store now c.opened.inside.node 0 k) kids c.fill.ensures.filled))

pub fill-requires-2-clause-hidden : goal.fill-requires-2-clause-hidden
fill-requires-2-clause-hidden c =
    let node = ap (λ (o : Opened). o.node) c.opened.view_is in
    let hidden = ap (λ (o : Opened). o.hidden) c.opened.view_is in
    let held = c.len-held.ensures in
    let fewer = c.if-hidden-held.false in
    let l = c.open_list-2.result.now in
    let still : ℕ = c.opened.inside.hidden - c.len-held.result in
    let all : still + length c.args.leaf.now.ids.items ≡ c.args.opened.now.hidden = omega (arith, hidden, held, fewer) in
    subst (λ (m : Ref). HidesMore (store_of c.args.store.now) m still (length l)) (sym node) (fills_last c.requires.can c.requires.has.even l c.open_list-2.ensures still all)

pub returns-clause-supplied : goal.returns-clause-supplied
returns-clause-supplied c =
    let s = c.args.leaf.now in
    let store = store_of c.args.store.now in
    let now = store_of c.fill-2.new.store in
    let opened = c.args.opened.now in
    let node = ap (λ (o : Opened). o.node) c.opened.view_is in
    let hidden = ap (λ (o : Opened). o.hidden) c.opened.view_is in
    let held = c.len-held.ensures in
    let fewer = c.if-hidden-held.false in
    let still : ℕ = c.opened.inside.hidden - c.len-held.result in
    part_supplied still (omega (arith, hidden, held, fewer)) (omega (arith, hidden, held, fewer)) c.in_ok-raise.ensures.raised
    (subst (λ (m : Ref). SuppliesPart store now m still s.block.kids) node (subst (λ (k : List Kid). SuppliesPart store now c.opened.inside.node still k) c.open_list-2.ensures c.fill-2.ensures.filled))
