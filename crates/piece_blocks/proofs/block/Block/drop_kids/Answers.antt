use Rattle.std.proofs.Common.{◌-◌, length, take, drop, ap, ◌∙◌, arith}
use Rattle.std.proofs.lemmas.List.{length-drop}
use Rattle.piece_blocks.specs.Blocks.{Filling, cut_pieces}
use Rattle.piece_blocks.proofs.CutLemmas.{cut_take, drop_take}
use Rattle.piece_blocks.proofs.block.Block.drop_kids.Goals as goal

pub returns-clause-closed : goal.returns-clause-closed
returns-clause-closed c =
    let kids = c.self.inside.kids.items in
    let left = ap (λ (v : Filling). length v.kids) c.self.view_is in
    let len = length-drop c.self.inside.closed_kids kids in
    ap (λ l. cut_pieces c.self.inside.heads.items c.self.inside.floors.items l) c.truncate.ensures.items
    ∙ cut_take c.self.inside.heads.items c.self.inside.floors.items kids (c.len.result - c.args.count) (omega (arith, c.self.invariant.floors_are, c.self.invariant.floors_fit)) (omega (arith, c.len.ensures, c.self.inside.kids.ok.0, c.self.invariant.kids_are, c.self.invariant.kids_fit, left, len, c.requires)) (omega (arith, c.len.ensures, c.self.inside.kids.ok.0))
    ∙ ap (λ (v : Filling). v.closed) c.self.view_is

pub returns-clause-kids : goal.returns-clause-kids
returns-clause-kids c =
    let kids = c.self.inside.kids.items in
    let left = ap (λ (v : Filling). length v.kids) c.self.view_is in
    let len = length-drop c.self.inside.closed_kids kids in
    ap (λ l. drop c.self.inside.closed_kids l) c.truncate.ensures.items
    ∙ drop_take c.self.inside.closed_kids (c.len.result - c.args.count) c.args.count kids c.self.invariant.kids_fit (omega (arith, c.len.ensures, c.self.inside.kids.ok.0)) (omega (arith, left, len, c.requires))
    ∙ ap (λ (v : Filling). take (length v.kids - c.args.count) v.kids) c.self.view_is
