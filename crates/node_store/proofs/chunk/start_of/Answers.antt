use Rattle.std.proofs.Common.{◌-◌, get_or, arith}
use Rattle.std.proofs.lemmas.Option.{slice_get-get_or}
use Rattle.node_store.proofs.FlatLemmas.{start_behind}
use Rattle.node_store.proofs.chunk.start_of.Goals as goal

pub returns : goal.returns
returns c =
    let node = get_or c.args.nodes.now (c.args.place - 1) c.index-nodes-place.result in
    start_behind c.args.nodes.now c.args.place node (λ none. omega (arith, none, c.if-place-eq0.false))
    (slice_get-get_or c.args.nodes.now (c.args.place - 1) c.index-nodes-place.result (omega (arith, c.requires, c.if-place-eq0.false)))
