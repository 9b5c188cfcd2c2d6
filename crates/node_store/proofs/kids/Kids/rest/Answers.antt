use Rattle.std.proofs.Common.{◌≡◌, ◌<◌, ◌+◌, ◌-◌, drop, take, ap, ◌∙◌, arith}
use Rattle.node_store.specs.Flat.{all_kids}
use Rattle.node_store.proofs.ChunkLemmas.{part_size, part_skip}
use Rattle.node_store.proofs.kids.Kids.rest.Goals as goal

pub returns : goal.returns
returns c =
    let some : 0 < c.args.self.end - c.args.self.first = omega (arith, c.requires, part_size (all_kids c.args.self.chunk.now) c.args.self.first (c.args.self.end - c.args.self.first) (omega (arith, c.args.self.order, c.args.self.inside))) in
    let same : c.args.self.end - (c.args.self.first + 1) ≡ c.args.self.end - c.args.self.first - 1 = omega arith in
    ap (λ n. take n (drop (c.args.self.first + 1) (all_kids c.args.self.chunk.now))) same ∙ part_skip (all_kids c.args.self.chunk.now) c.args.self.first (c.args.self.end - c.args.self.first) some
