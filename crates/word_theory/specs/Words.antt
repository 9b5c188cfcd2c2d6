-- The form of the words: the word of a command, and then what that command takes.
use Rattle.std.specs.Prelude.{◌≡◌, ℕ, List, [], ◌∷◌, Some}
use Rattle.tally_theory.specs.declared.asked.Asked.{Asked}
use Rattle.tally_theory.specs.declared.cut.Cut.{Cut}
use Rattle.answer_theory.specs.declared.task.Seed.{Seed}
use Rattle.answer_theory.specs.declared.task.Task.{Task}
use Rattle.answer_theory.specs.declared.task.Task.TheVariants as task
use Rattle.word_theory.specs.declared.command_name.CommandName.{CommandName}
use Rattle.word_theory.specs.declared.command_name.CommandName.TheVariants.{Tokens, Check, Tables, Run, Gen, Load}
use Rattle.word_theory.specs.Arguments.{word_of, IsTaken, Told, told_in}
use Rattle.word_theory.specs.Values.{IsAskedBy, IsCutBy, IsSeedBy, IsWorkersBy}

-- how a text is cut to be parsed, and by how many workers, by the values of a run's options
pub record IsParsedBy (told : Told) (cut : Cut) (workers : ℕ) : Type 0 where
  pub cut_told : IsCutBy told.cut told.at cut
  pub workers_told : IsWorkersBy told.workers workers

-- what is asked of a text, by these values; they say how it is parsed, whether that is asked for or not
pub record IsRunBy (told : Told) (asked : Asked) : Type 0 where
  pub cut : Cut
  pub workers : ℕ
  pub parsed_told : IsParsedBy told cut workers
  pub asked_told : IsAskedBy told.emit cut asked

-- the values that are told of a command's arguments ask for this task, over inputs with these names
pub data AsksFor (told : Told) : CommandName → Task → List (List ℕ) → Type 0 where
  asks_tokens : {sheet text : List ℕ} → told.sheet ≡ Some sheet → told.text ≡ Some text → AsksFor told Tokens task.Tokens (sheet ∷ text ∷ [])
  asks_check : {sheet : List ℕ} → told.sheet ≡ Some sheet → AsksFor told Check task.Check (sheet ∷ [])
  asks_tables : {sheet : List ℕ} → told.sheet ≡ Some sheet → AsksFor told Tables task.Tables (sheet ∷ [])
  asks_run : {sheet text : List ℕ} {asked : Asked} → told.sheet ≡ Some sheet → told.text ≡ Some text → IsRunBy told asked → AsksFor told Run (task.Run asked) (sheet ∷ text ∷ [])
  asks_gen : {sheet : List ℕ} {seed : Seed} → told.sheet ≡ Some sheet → IsSeedBy told.from told.size seed → AsksFor told Gen (task.Gen seed) (sheet ∷ [])
  asks_load : {sheet : List ℕ} {seed : Seed} {asked : Asked} → told.sheet ≡ Some sheet → IsSeedBy told.from told.size seed → IsRunBy told asked → AsksFor told Load (task.Load seed asked) (sheet ∷ [])

-- the words ask for the task, over inputs with these names: they are a command's word and words that it takes, and the
-- values of its arguments ask for it
pub record HasForm (words : List (List ℕ)) (asked : Task) (names : List (List ℕ)) : Type 0 where
  pub command : CommandName
  pub rest : List (List ℕ)
  pub are : words ≡ word_of command ∷ rest
  pub taken : IsTaken command rest
  pub ask : AsksFor (told_in command rest) command asked names

-- the words are of no form
abbrev pub IsBadWords : List (List ℕ) → Type 0
IsBadWords words = (asked : Task) (names : List (List ℕ)) → ¬ (HasForm words asked names)

-- where words ask for a text that is parsed, they say that it is parsed so
pub record HasParse (words : List (List ℕ)) (cut : Cut) (workers : ℕ) : Type 0 where
  pub command : CommandName
  pub rest : List (List ℕ)
  pub are : words ≡ word_of command ∷ rest
  pub parsed_told : IsParsedBy (told_in command rest) cut workers
