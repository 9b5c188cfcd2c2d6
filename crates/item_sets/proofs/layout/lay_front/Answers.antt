use Rattle.std.proofs.Common.{inl, sym, ◌∙◌}
use Rattle.std.proofs.lemmas.Bool.{false≢true}
use Rattle.item_sets.proofs.LayoutLemmas.{token_of}
use Rattle.item_sets.proofs.layout.lay_front.Goals as goal

pub returns : goal.returns
returns c = inl (token_of c.args.ahead.now c.requires (λ none. false≢true (sym c.if-is_empty.false ∙ c.is_empty.ensures.1 none)), c.in_ok-push.ensures.items)
