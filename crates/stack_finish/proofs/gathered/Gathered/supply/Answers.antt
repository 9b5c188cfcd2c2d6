use Rattle.std.proofs.Common.{◌-◌, length, take, drop, sym, ap, subst, arith}
use Rattle.std.proofs.lemmas.List.{length-take, length-drop}
use Rattle.tree_theory.specs.Stores.{Ref}
use Rattle.piece_theory.specs.Pieces.{Opened}
use Rattle.node_store.specs.Chunks.{store_of}
use Rattle.stack_finish.specs.Putting.{HidesMore, FitsOn}
use Rattle.stack_finish.proofs.FloorLemmas.{hides_more}
use Rattle.stack_finish.proofs.gathered.Gathered.supply.Goals as goal

pub fill-requires-clause-hidden : goal.fill-requires-clause-hidden
fill-requires-clause-hidden c =
    let fits = subst (λ o. FitsOn (store_of c.args.self.now.store) c.args.self.now.kids.items c.args.self.now.states.items o) c.in-Some.is c.requires in
    let node = ap (λ (o : Opened). o.node) c.opened.view_is in
    let hidden = ap (λ (o : Opened). o.hidden) c.opened.view_is in
    let items = c.deref.ensures.value in
    let enough = fits.enough in
    let a = length-take (length c.deref.result.now - (c.len.result - c.opened.inside.hidden)) (drop (c.len.result - c.opened.inside.hidden) c.deref.result.now) in
    let b = length-drop (c.len.result - c.opened.inside.hidden) c.deref.result.now in
    let long = ap length items in
    let len = c.len.ensures in
    subst (λ (m : Ref). HidesMore (store_of c.args.self.now.store) m 0 (length (take (length c.deref.result.now - (c.len.result - c.opened.inside.hidden)) (drop (c.len.result - c.opened.inside.hidden) c.deref.result.now)))) (sym node) (hides_more fits (length (take (length c.deref.result.now - (c.len.result - c.opened.inside.hidden)) (drop (c.len.result - c.opened.inside.hidden) c.deref.result.now))) (omega (arith, a, b, long, len, hidden, enough)))
