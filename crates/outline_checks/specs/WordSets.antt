-- Sets of words, and the lists that have the same words.
use Rattle.std.specs.Prelude.{◌≡◌, ℕ, Bool, true, List, ◌↔◌, Contains}
use Rattle.std.specs.HashSet.{contains_by}
use Rattle.std.specs.Str.{bytes_eq}
use Rattle.outline_checks.specs.declared.word_set.WordSet.{WordSet}

-- whether the word is in the set
abbrev pub has_word : WordSet → List ℕ → Bool
has_word set word = contains_by (λ key. bytes_eq word key.now) set.words

-- the words of the set are those of the list
pub record IsSetOf (set : WordSet) (words : List (List ℕ)) : Type 0 where
  pub same : (word : List ℕ) → (has_word set word ≡ true) ↔ Contains words word
