-- First places of words in a list, and lists that grow by words which they lack.
use Rattle.std.specs.Prelude.{◌≡◌, ℕ, ◌<◌, true, false, if◌then◌else◌, List, [], ◌∷◌, ◌++◌, length, Option, None, Some, MatchOption}
use Rattle.outline_theory.specs.Numbering.{is_one_of, index_of}

-- the first place of a word, where it is one of the list
abbrev pub first_place : List (List ℕ) → List ℕ → Option ℕ
first_place words word = if is_one_of words word then Some (index_of words word) else None

-- the words and then this one, where it is none of them
abbrev pub with_word : List (List ℕ) → List ℕ → List (List ℕ)
with_word words word = if is_one_of words word then words else words ++ word ∷ []

-- the same for one word after another
abbrev pub with_words : List (List ℕ) → List (List ℕ) → List (List ℕ)
with_words words [] = words
with_words words (word ∷ more) = with_words (with_word words word) more

-- the word's place, where it is one of the list
abbrev pub IsFound : List (List ℕ) → List ℕ → Option ℕ → Type 0
IsFound words word place =
    MatchOption place (is_one_of words word ≡ false) (λ i. (is_one_of words word ≡ true) × (index_of words word ≡ i) × (i < length words))
