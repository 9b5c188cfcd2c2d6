-- Words by their places.
use Rattle.std.specs.Prelude.{◌≡◌, ℕ, List, map, Option}
use Rattle.std.specs.HashMap.{get_by}
use Rattle.std.specs.Str.{bytes_eq}
use Rattle.numbering_theory.specs.Places.{first_place}
use Rattle.outline_numbers.specs.declared.vocabulary.Vocabulary.{Vocabulary}

-- the words of a vocabulary, by their places
abbrev pub words_of : Vocabulary → List (List ℕ)
words_of v = map (λ word. word.now) v.words.items

-- what a look-up of the word gives
abbrev pub place_in : Vocabulary → List ℕ → Option ℕ
place_in v word = get_by (λ key. bytes_eq word key.now) v.places

-- a look-up gives the first place of each word, and nothing else
abbrev pub IsVocabulary : Vocabulary → Type 0
IsVocabulary v = (word : List ℕ) → place_in v word ≡ first_place (words_of v) word
