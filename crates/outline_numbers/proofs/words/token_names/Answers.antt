use Rattle.std.proofs.Common.{[], ap, ◌∙◌}
use Rattle.outline_data.specs.Parts.{OutlineParts}
use Rattle.outline_theory.specs.Words.{texts, token_in}
use Rattle.numbering_theory.specs.Places.{with_words}
use Rattle.outline_numbers.proofs.WordLemmas.{noted_next}
use Rattle.outline_numbers.proofs.words.token_names.Goals as goal

pub loop-declaration-preserved : goal.loop-declaration-preserved
loop-declaration-preserved c = record {
  words = c.in_ok-note_token.ensures.words ∙ ap (λ b. with_words b (texts (token_in c.declaration-item.result))) c.loop-declaration.invariant.words ∙ noted_next token_in [] c.deref-declaration-items.result.now c.args.outline.now.declarations c.loop-declaration.declaration-index c.declaration-item.result (c.deref-declaration-items.ensures.value ∙ ap (λ (o : OutlineParts). o.declarations) c.outline.view_is) c.loop-declaration-test.true c.declaration-item.is;
  places = c.in_ok-note_token.ensures.places;
}
