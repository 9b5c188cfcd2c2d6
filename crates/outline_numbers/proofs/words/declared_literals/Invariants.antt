use Rattle.std.proofs.Common.{◌≡◌, take}
use Rattle.std.specs.List.{flat_map}
use Rattle.outline_theory.specs.Numbering.{literal_of_token}
use Rattle.outline_numbers.specs.Vocabularies.{IsVocabulary, words_of}
use Rattle.outline_numbers.proofs.words.declared_literals.Given as goal

abbrev pub invariant-loop-declaration : goal.invariant-loop-declaration
invariant-loop-declaration l = record {
  words : words_of l.words ≡ flat_map literal_of_token (take l.declaration-index l.outline.declarations);
  places : IsVocabulary l.words;
}
