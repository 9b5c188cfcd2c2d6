use Rattle.std.proofs.Common.{ap, ◌∙◌}
use Rattle.std.specs.List.{flat_map}
use Rattle.outline_data.specs.AlternativeParts.{AlternativeParts}
use Rattle.outline_data.specs.GroupParts.{GroupParts}
use Rattle.outline_theory.specs.Words.{texts, quoted_in}
use Rattle.outline_numbers.specs.Vocabularies.{words_of}
use Rattle.numbering_theory.specs.Places.{with_words}
use Rattle.outline_numbers.proofs.WordLemmas.{noted_next}
use Rattle.outline_numbers.proofs.words.note_sides.Goals as goal

pub loop-alternative-preserved : goal.loop-alternative-preserved
loop-alternative-preserved c = record {
  words = c.in_ok-note_side.ensures.words ∙ ap (λ b. with_words b (texts ((λ (a : AlternativeParts). flat_map quoted_in a.right) c.alternative-item.result))) c.loop-alternative.invariant.words ∙ noted_next (λ (a : AlternativeParts). flat_map quoted_in a.right) (words_of c.args.words.now) c.deref-alternative-items.result.now c.args.group.now.alternatives c.loop-alternative.alternative-index c.alternative-item.result (c.deref-alternative-items.ensures.value ∙ ap (λ (o : GroupParts). o.alternatives) c.group.view_is) c.loop-alternative-test.true c.alternative-item.is;
  places = c.in_ok-note_side.ensures.places;
}
