use Rattle.std.proofs.Common.{◌≡◌, take}
use Rattle.std.specs.List.{flat_map}
use Rattle.outline_theory.specs.Words.{texts, quoted_in}
use Rattle.outline_data.specs.AlternativeParts.{AlternativeParts}
use Rattle.outline_numbers.specs.Vocabularies.{IsVocabulary, words_of}
use Rattle.numbering_theory.specs.Places.{with_words}
use Rattle.outline_numbers.proofs.words.note_sides.Given as goal

abbrev pub invariant-loop-alternative : goal.invariant-loop-alternative
invariant-loop-alternative l = record {
  words : words_of l.words ≡ with_words (words_of l.fn.words) (texts (flat_map (λ (a : AlternativeParts). flat_map quoted_in a.right) (take l.alternative-index l.group.alternatives)));
  places : IsVocabulary l.words;
}
