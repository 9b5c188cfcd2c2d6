use Rattle.std.proofs.Common.{◌≡◌, ◌+◌, ◌-◌, length, sym, ap, ◌∙◌, arith}
use Rattle.piece_blocks.specs.Blocks.{Filling}
use Rattle.piece_blocks.proofs.CutLemmas.{length-cut, reopens}
use Rattle.piece_blocks.proofs.block.Block.reopen.Goals as goal

pub invariant_of-self : goal.invariant_of-self
invariant_of-self c =
    let count : length c.self.inside.heads.items ≡ (c.len-last.result - 1) + 1 =
    let cut = length-cut c.self.inside.heads.items c.self.inside.floors.items c.self.inside.kids.items in
    let same = ap (λ (v : Filling). length v.closed) c.self.view_is in
    omega (arith, cut, same, c.requires, c.len-last.ensures, c.self.inside.heads.ok.0) in
    (reopens c.self.inside.heads.items c.self.inside.floors.items c.self.inside.kids.items c.self.inside.closed_floors c.self.inside.closed_kids (c.len-last.result - 1) c.index-head.result.now c.truncate-3.new.self.items c.truncate.new.self.items c.truncate-2.new.self.items c.self.invariant count c.index-head.ensures c.truncate-3.ensures.items c.truncate.ensures.items c.truncate-2.ensures.items).block

pub returns : goal.returns
returns c =
    let count : length c.self.inside.heads.items ≡ (c.len-last.result - 1) + 1 =
    let cut = length-cut c.self.inside.heads.items c.self.inside.floors.items c.self.inside.kids.items in
    let same = ap (λ (v : Filling). length v.closed) c.self.view_is in
    omega (arith, cut, same, c.requires, c.len-last.ensures, c.self.inside.heads.ok.0) in
    sym (ap (λ (v : Filling). v.closed) c.self.view_is) ∙ (reopens c.self.inside.heads.items c.self.inside.floors.items c.self.inside.kids.items c.self.inside.closed_floors c.self.inside.closed_kids (c.len-last.result - 1) c.index-head.result.now c.truncate-3.new.self.items c.truncate.new.self.items c.truncate-2.new.self.items c.self.invariant count c.index-head.ensures c.truncate-3.ensures.items c.truncate.ensures.items c.truncate-2.ensures.items).same
