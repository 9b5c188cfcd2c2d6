use Rattle.std.proofs.Common.{◌≡◌, take}
use Rattle.std.specs.List.{flat_map}
use Rattle.outline_theory.specs.Words.{texts, quoted_in}
use Rattle.outline_theory.specs.Numbering.{literal_of_token}
use Rattle.outline_data.specs.AlternativeParts.{AlternativeParts}
use Rattle.outline_data.specs.GroupParts.{GroupParts}
use Rattle.outline_numbers.specs.Vocabularies.{IsVocabulary, words_of}
use Rattle.numbering_theory.specs.Places.{with_words}
use Rattle.outline_numbers.proofs.words.literals.Given as goal

abbrev pub invariant-loop-group : goal.invariant-loop-group
invariant-loop-group l = record {
  words : words_of l.words ≡ with_words (flat_map literal_of_token l.outline.declarations) (texts (flat_map (λ (g : GroupParts). flat_map (λ (a : AlternativeParts). flat_map quoted_in a.right) g.alternatives) (take l.group-index l.outline.groups)));
  places : IsVocabulary l.words;
}
