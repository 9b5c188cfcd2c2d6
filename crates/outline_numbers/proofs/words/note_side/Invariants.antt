use Rattle.std.proofs.Common.{◌≡◌, take}
use Rattle.std.specs.List.{flat_map}
use Rattle.outline_theory.specs.Words.{texts, quoted_in}
use Rattle.outline_numbers.specs.Vocabularies.{IsVocabulary, words_of}
use Rattle.numbering_theory.specs.Places.{with_words}
use Rattle.outline_numbers.proofs.words.note_side.Given as goal

abbrev pub invariant-loop-symbol : goal.invariant-loop-symbol
invariant-loop-symbol l = record {
  words : words_of l.words ≡ with_words (words_of l.fn.words) (texts (flat_map quoted_in (take l.symbol-index l.alternative.right)));
  places : IsVocabulary l.words;
}
