use Rattle.std.proofs.Common.{◌++◌, refl, sym, ap, ◌∙◌, append-nil}
use Rattle.templates.specs.Pending.{gathered, begun}
use Rattle.templates.proofs.KidLemmas.{node_there, kid_is_token, kid_is_node, kid_is_hidden}
use Rattle.templates.proofs.PendingLemmas.{node_begun}
use Rattle.templates.proofs.parts.fold.Goals as goal

pub frame-requires : goal.frame-requires
frame-requires c = node_there (kid_is_node c.args.source.now c.requires.1 c.args.place c.kid_of.result c.in-Node.node c.kid_of.ensures c.in-Node.is)

pub returns-in_ok-extend_from_slice-in-Token : goal.returns-in_ok-extend_from_slice-in-Token
returns-in_ok-extend_from_slice-in-Token c = λ trees are.
    gathered refl refl (c.in_ok-extend_from_slice-in-Token.ensures.items ∙ ap (λ l. c.args.gathered.now.items ++ l) (c.token_bytes.ensures ∙ sym (kid_is_token c.args.source.now are c.args.place c.kid_of.result c.in-Token.token c.kid_of.ensures c.in-Token.is)))

pub returns-in_ok-push_left-in-Node : goal.returns-in_ok-push_left-in-Node
returns-in_ok-push_left-in-Node c = λ trees are.
    begun c.in_ok-push_left-in-Node.ensures (node_begun c.frame.result (kid_is_node c.args.source.now are c.args.place c.kid_of.result c.in-Node.node c.kid_of.ensures c.in-Node.is) c.frame.ensures) refl

pub returns-in-Hidden : goal.returns-in-Hidden
returns-in-Hidden c = λ trees are.
    gathered refl refl (sym (append-nil c.args.gathered.now.items) ∙ ap (λ l. c.args.gathered.now.items ++ l) (sym (kid_is_hidden c.args.source.now are c.args.place c.kid_of.result c.kid_of.ensures c.in-Hidden.is)))
