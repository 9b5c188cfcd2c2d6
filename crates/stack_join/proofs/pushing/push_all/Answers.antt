use Rattle.std.proofs.Common.{◌≡◌, ◌+◌, ◌∷◌, ◌++◌, [], List, take, refl, sym, ap, ◌∙◌, append_assoc, append-nil}
use Rattle.std.proofs.lemmas.List.{take_more}
use Rattle.node_data.specs.declared.kid.Kid.{Kid}
use Rattle.stack_join.proofs.pushing.push_all.Goals as goal

pub loop-kid-init : goal.loop-kid-init
loop-kid-init c = record { kids = sym (append-nil c.args.block.now.kids); floors = refl; closed = refl }

pub loop-kid-preserved : goal.loop-kid-preserved
loop-kid-preserved c =
    let kid = c.kid-item.result in
    let before = c.args.block.now.kids in
    let so_far = take c.loop-kid.kid-index c.args.kids.now in
    let next : take (c.loop-kid.kid-index + 1) c.args.kids.now ≡ take c.loop-kid.kid-index c.args.kids.now ++ kid ∷ [] = take_more c.args.kids.now c.loop-kid.kid-index kid c.loop-kid-test.true ∙ ap (λ k. take c.loop-kid.kid-index c.args.kids.now ++ k ∷ []) (sym c.kid-item.is) in
    record {
      kids = c.in_ok-push_kid.ensures.kids ∙ ap (λ (l : List Kid). l ++ kid ∷ []) c.loop-kid.invariant.kids ∙ append_assoc before so_far (kid ∷ []) ∙ ap (λ (l : List Kid). before ++ l) (sym next);
      floors = c.push_kid.ensures.floors ∙ c.loop-kid.invariant.floors;
      closed = c.in_ok-push_kid.ensures.closed ∙ c.loop-kid.invariant.closed;
    }
