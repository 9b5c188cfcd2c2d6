use Rattle.std.proofs.Common.{◌≡◌, ◌+◌, [], ◌∷◌, ◌++◌, List, length, ap, sym, ◌∙◌, subst}
use Rattle.std.proofs.lemmas.List.{length_push}
use Rattle.node_store.specs.declared.link.Link.{Link}
use Rattle.node_store.specs.declared.link.Link.TheVariants.{Leaf}
use Rattle.node_store.specs.Links.{AreNumbered}
use Rattle.node_store.proofs.LinkLemmas.{numbered_node, numbered_leaf, linked_leaf}
use Rattle.node_store.proofs.links.push_kid.Goals as goal

pub returns-in-Some-clause-numbered : goal.returns-in-Some-clause-numbered
returns-in-Some-clause-numbered c =
    subst (λ (l : List Link). AreNumbered 0 l (length c.args.leaves.now.items)) (sym (c.push_reserved.ensures.items ∙ ap (λ (k : Link). c.args.links.now.items ++ k ∷ []) c.of.ensures))
    (numbered_node 0 c.args.links.now.items (length c.args.leaves.now.items) c.in-Some.place c.requires.numbered)

pub returns-in-None-clause-numbered : goal.returns-in-None-clause-numbered
returns-in-None-clause-numbered c =
    let pushed = c.push_reserved-in-None-2.ensures.items ∙ ap (λ (k : Link). c.args.links.now.items ++ k ∷ []) c.of-in-None.ensures ∙ ap (λ n. c.args.links.now.items ++ Leaf n ∷ []) (c.len-index.ensures ∙ c.args.leaves.now.ok.0) in
    let size : length c.push_reserved-in-None.new.self.items ≡ length c.args.leaves.now.items + 1 = ap length c.push_reserved-in-None.ensures.items ∙ length_push c.args.leaves.now.items c.args.kid in
    subst (λ n. AreNumbered 0 c.push_reserved-in-None-2.new.self.items n) (sym size)
    (subst (λ (l : List Link). AreNumbered 0 l (length c.args.leaves.now.items + 1)) (sym pushed)
    (numbered_leaf 0 c.args.links.now.items (length c.args.leaves.now.items) c.requires.numbered))

pub returns-in-None-clause-kids : goal.returns-in-None-clause-kids
returns-in-None-clause-kids c =
    let pushed = c.push_reserved-in-None-2.ensures.items ∙ ap (λ (k : Link). c.args.links.now.items ++ k ∷ []) c.of-in-None.ensures ∙ ap (λ n. c.args.links.now.items ++ Leaf n ∷ []) (c.len-index.ensures ∙ c.args.leaves.now.ok.0) in
    linked_leaf c.args.number c.args.leaves.now.items c.push_reserved-in-None.new.self.items c.args.links.now.items c.push_reserved-in-None-2.new.self.items c.args.kid c.requires.numbered c.push_reserved-in-None.ensures.items pushed
