use Rattle.std.proofs.Common.{◌≡◌, [], take}
use Rattle.std.specs.List.{flat_map}
use Rattle.outline_theory.specs.Words.{texts, token_in}
use Rattle.outline_numbers.specs.Vocabularies.{IsVocabulary, words_of}
use Rattle.numbering_theory.specs.Places.{with_words}
use Rattle.outline_numbers.proofs.words.token_names.Given as goal

abbrev pub invariant-loop-declaration : goal.invariant-loop-declaration
invariant-loop-declaration l = record {
  words : words_of l.words ≡ with_words [] (texts (flat_map token_in (take l.declaration-index l.outline.declarations)));
  places : IsVocabulary l.words;
}
