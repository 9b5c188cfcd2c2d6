-- The numbers of symbols, by the words that have numbers.
use Rattle.std.specs.Prelude.{◌≤◌, length}
use Rattle.lr_base.specs.declared.limits.TheConstants.{TOKENS, NAMES}
use Rattle.outline_theory.specs.Numbering.{WordLists}
use Rattle.outline_numbers.specs.declared.numbers.Numbers.{Numbers}
use Rattle.outline_numbers.specs.Vocabularies.{IsVocabulary, words_of}

abbrev pub lists_in : Numbers → WordLists
lists_in numbers = record { tokens = words_of numbers.tokens; literals = words_of numbers.literals; names = words_of numbers.names }

pub record AreVocabularies (numbers : Numbers) : Type 0 where
  pub tokens : IsVocabulary numbers.tokens
  pub literals : IsVocabulary numbers.literals
  pub names : IsVocabulary numbers.names

-- vocabularies within the limits
pub record AreNumbers (numbers : Numbers) : Type 0 where
  pub vocabularies : AreVocabularies numbers
  pub few_tokens : length (words_of numbers.tokens) ≤ TOKENS
  pub few_literals : length (words_of numbers.literals) ≤ TOKENS
  pub few_names : length (words_of numbers.names) ≤ NAMES
