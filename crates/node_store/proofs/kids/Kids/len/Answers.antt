use Rattle.std.proofs.Common.{◌-◌, sym, arith}
use Rattle.node_store.specs.Flat.{all_kids}
use Rattle.node_store.proofs.ChunkLemmas.{part_size}
use Rattle.node_store.proofs.kids.Kids.len.Goals as goal

pub returns : goal.returns
returns c = sym (part_size (all_kids c.args.self.chunk.now) c.args.self.first (c.args.self.end - c.args.self.first) (omega (arith, c.args.self.order, c.args.self.inside)))
