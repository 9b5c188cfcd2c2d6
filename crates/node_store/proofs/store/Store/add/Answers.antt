use Rattle.std.proofs.Common.{sym, subst}
use Rattle.node_store.specs.Chunks.{HasChunk, IsPlaceOf}
use Rattle.node_store.proofs.StoreLemmas.{add_step, add_store}
use Rattle.node_store.proofs.store.Store.add.Goals as goal

pub invariant_of-self-2 : goal.invariant_of-self-2
invariant_of-self-2 c =
    add_store c.self.inside.chunks.items c.self.inside.slots.items c.self.inside.count c.in-Some.count c.args.chunk c.place_of-at.result c.args.rule c.args.kids.now c.index_mut.result.now c.add.new.self c.self.invariant
    (subst (λ l. HasChunk l c.args.chunk) (sym c.self.view_is) c.requires)
    (subst (λ l. IsPlaceOf l c.args.chunk c.place_of-at.result) (sym c.self.view_is) c.place_of-at.ensures)
    c.index_mut.ensures.value c.in_ok-place.ensures.nodes c.in-Some.ensures.1

pub returns-clause-added : goal.returns-clause-added
returns-clause-added c =
    (add_step c.self.inside.chunks.items c.args.self.now c.args.chunk c.place_of-at.result c.args.rule c.in_ok-place.place c.args.kids.now c.index_mut.result.now c.add.new.self c.self.view_is c.requires c.place_of-at.ensures
    c.index_mut.ensures.value c.in_ok-place.ensures.nodes c.in_ok-place.ensures.place).added

pub returns-clause-trees : goal.returns-clause-trees
returns-clause-trees c =
    (add_step c.self.inside.chunks.items c.args.self.now c.args.chunk c.place_of-at.result c.args.rule c.in_ok-place.place c.args.kids.now c.index_mut.result.now c.add.new.self c.self.view_is c.requires c.place_of-at.ensures
    c.index_mut.ensures.value c.in_ok-place.ensures.nodes c.in_ok-place.ensures.place).trees

pub returns-clause-chunks : goal.returns-clause-chunks
returns-clause-chunks c =
    (add_step c.self.inside.chunks.items c.args.self.now c.args.chunk c.place_of-at.result c.args.rule c.in_ok-place.place c.args.kids.now c.index_mut.result.now c.add.new.self c.self.view_is c.requires c.place_of-at.ensures
    c.index_mut.ensures.value c.in_ok-place.ensures.nodes c.in_ok-place.ensures.place).numbers

pub returns-clause-count : goal.returns-clause-count
returns-clause-count c =
    (add_step c.self.inside.chunks.items c.args.self.now c.args.chunk c.place_of-at.result c.args.rule c.in_ok-place.place c.args.kids.now c.index_mut.result.now c.add.new.self c.self.view_is c.requires c.place_of-at.ensures
    c.index_mut.ensures.value c.in_ok-place.ensures.nodes c.in_ok-place.ensures.place).count
