use Rattle.std.proofs.Common.{◌-◌, ◌∷◌, [], List, ◌∙◌, ap, sym, subst, drop, take, length, reverse}
use Rattle.node_data.specs.declared.kid.Kid.{Kid}
use Rattle.node_store.specs.Frames.{IsTop}
use Rattle.node_store.proofs.FrameLemmas.{last_frame, no_kids, first_kid, top_is}
use Rattle.node_store.proofs.frames.innermost.Goals as goal

pub returns-in-None : goal.returns-in-None
returns-in-None c =
    let frames = c.args.frames.now in
    let below = reverse (take (length frames - 1) frames) in
    let kids = no_kids c.in-Some.frame.now.1 c.in-None.ensures in
    (below, last_frame frames c.in-Some.frame.now c.in-Some.ensures.value ∙ ap (λ (l : List Kid). (c.in-Some.frame.now.0, l) ∷ below) kids ∙ ap (λ n. (n, []) ∷ below) (sym c.node.ensures))

pub returns-in-Some-next_kid : goal.returns-in-Some-next_kid
returns-in-Some-next_kid c =
    let frames = c.args.frames.now in
    let below = reverse (take (length frames - 1) frames) in
    let kid = c.in-Some-next_kid.kid in
    let kids = first_kid c.in-Some.frame.now.1 kid c.in-Some-next_kid.ensures in
    subst (IsTop (reverse frames)) (sym c.next_as.ensures)
    (top_is (reverse frames) kid (
      c.in-Some.frame.now.0,
      drop 1 c.in-Some.frame.now.1,
      below,
      last_frame frames c.in-Some.frame.now c.in-Some.ensures.value ∙ ap (λ (l : List Kid). (c.in-Some.frame.now.0, l) ∷ below) kids,
    ))
