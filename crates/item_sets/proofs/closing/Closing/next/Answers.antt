use Rattle.std.proofs.Common.{◌++◌, ◌∷◌, ℕ, List, [], ap, sym, subst, ◌∙◌, arith}
use Rattle.std.proofs.lemmas.List.Elements.{Contains-push}
use Rattle.item_sets.specs.Closing.{IsMarked}
use Rattle.item_sets.proofs.ClosingLemmas.{marked_less}
use Rattle.item_sets.proofs.closing.Closing.next.Goals as goal

pub index_mut-requires : goal.index_mut-requires
index_mut-requires c =
    let old = c.self.inside.lookaheads.items in
    let waits = c.self.inside.waits.items in
    let new = c.pop.new.self.items in
    let n = c.name.inside.0 in
    let marked : IsMarked old (new ++ n ∷ []) waits = subst (λ (w : List ℕ). IsMarked old w waits) (c.in_ok-name.ensures.items ∙ ap (λ k. new ++ k ∷ []) (sym c.name.view_is)) c.self.invariant in
    omega (arith, marked.count, marked.within n (Contains-push new n))

pub invariant_of-self-2 : goal.invariant_of-self-2
invariant_of-self-2 c =
    let old = c.self.inside.lookaheads.items in
    let waits = c.self.inside.waits.items in
    let new = c.pop.new.self.items in
    let n = c.name.inside.0 in
    let marked : IsMarked old (new ++ n ∷ []) waits = subst (λ (w : List ℕ). IsMarked old w waits) (c.in_ok-name.ensures.items ∙ ap (λ k. new ++ k ∷ []) (sym c.name.view_is)) c.self.invariant in
    marked_less old new waits n marked
