use Rattle.std.proofs.Common.{◌<◌, ◌-◌, arith}
use Rattle.node_store.specs.Flat.{all_kids}
use Rattle.node_store.proofs.ChunkLemmas.{part_at, part_size}
use Rattle.node_store.proofs.kids.Kids.packed.Goals as goal

pub kid-requires : goal.kid-requires
kid-requires c = omega (arith, c.requires, part_size (all_kids c.args.self.chunk.now) c.args.self.first (c.args.self.end - c.args.self.first) (omega (arith, c.args.self.order, c.args.self.inside)), c.args.self.inside)

pub returns : goal.returns
returns c =
    let less : c.args.at < c.args.self.end - c.args.self.first = omega (arith, c.requires, part_size (all_kids c.args.self.chunk.now) c.args.self.first (c.args.self.end - c.args.self.first) (omega (arith, c.args.self.order, c.args.self.inside))) in
    part_at (all_kids c.args.self.chunk.now) c.args.self.first (c.args.self.end - c.args.self.first) c.args.at c.kid.result less c.kid.ensures
