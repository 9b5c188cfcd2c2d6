use Rattle.std.proofs.Common.{◌≡◌, [], ◌∷◌, take}
use Rattle.std.specs.List.{flat_map}
use Rattle.outline_theory.specs.Words.{texts}
use Rattle.outline_data.specs.GroupParts.{GroupParts}
use Rattle.outline_numbers.specs.Vocabularies.{IsVocabulary, words_of}
use Rattle.numbering_theory.specs.Places.{with_words}
use Rattle.outline_numbers.proofs.words.grammar_names.Given as goal

abbrev pub invariant-loop-group : goal.invariant-loop-group
invariant-loop-group l = record {
  words : words_of l.words ≡ with_words [] (texts (flat_map (λ (g : GroupParts). g.left ∷ []) (take l.group-index l.outline.groups)));
  places : IsVocabulary l.words;
}
