use Rattle.std.proofs.Common.{ap, ◌∙◌}
use Rattle.outline_data.specs.AlternativeParts.{AlternativeParts}
use Rattle.outline_theory.specs.Words.{texts, quoted_in}
use Rattle.outline_numbers.specs.Vocabularies.{words_of}
use Rattle.numbering_theory.specs.Places.{with_words}
use Rattle.outline_numbers.proofs.WordLemmas.{noted_next}
use Rattle.outline_numbers.proofs.words.note_side.Goals as goal

pub loop-symbol-preserved : goal.loop-symbol-preserved
loop-symbol-preserved c = record {
  words = c.in_ok-note_quoted.ensures.words ∙ ap (λ b. with_words b (texts (quoted_in c.symbol-item.result))) c.loop-symbol.invariant.words ∙ noted_next quoted_in (words_of c.args.words.now) c.deref-symbol-items.result.now c.args.alternative.now.right c.loop-symbol.symbol-index c.symbol-item.result (c.deref-symbol-items.ensures.value ∙ ap (λ (o : AlternativeParts). o.right) c.alternative.view_is) c.loop-symbol-test.true c.symbol-item.is;
  places = c.in_ok-note_quoted.ensures.places;
}
