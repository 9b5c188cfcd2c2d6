use Rattle.std.proofs.Common.{◌++◌, ap, ◌∙◌}
use Rattle.outline_data.specs.Parts.{OutlineParts}
use Rattle.outline_theory.specs.Numbering.{literal_of_token}
use Rattle.outline_numbers.proofs.WordLemmas.{joined_next}
use Rattle.outline_numbers.proofs.words.declared_literals.Goals as goal

pub loop-declaration-preserved : goal.loop-declaration-preserved
loop-declaration-preserved c = record {
  words = c.in_ok-push_literal.ensures.words ∙ ap (λ b. b ++ literal_of_token c.declaration-item.result) c.loop-declaration.invariant.words ∙ joined_next literal_of_token c.deref-declaration-items.result.now c.args.outline.now.declarations c.loop-declaration.declaration-index c.declaration-item.result (c.deref-declaration-items.ensures.value ∙ ap (λ (o : OutlineParts). o.declarations) c.outline.view_is) c.loop-declaration-test.true c.declaration-item.is;
  places = c.in_ok-push_literal.ensures.places;
}
