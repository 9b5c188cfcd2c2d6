-- What a command that is this one asks for.
use Rattle.std.proofs.Common.{◌≡◌, ℕ, List, ◌∷◌, Result, Ok, Err, IfOk, sym, subst}
use Rattle.tally_theory.specs.declared.asked.Asked.{Asked}
use Rattle.tally_theory.specs.Cuts.{CanBeCut}
use Rattle.answer_theory.specs.declared.task.Task.{Task}
use Rattle.word_theory.specs.declared.command_name.CommandName.{CommandName}
use Rattle.word_theory.specs.declared.command_name.CommandName.TheVariants.{Run, Load}
use Rattle.word_theory.specs.Arguments.{Told, told_in, word_of}
use Rattle.word_theory.specs.Values.{CanWork}
use Rattle.word_theory.specs.Words.{AsksFor, IsParsedBy, IsRunBy, asks_run, asks_load}
use Rattle.command_words.specs.declared.command.Command.{Command}
use Rattle.command_words.specs.declared.command.Command.TheVariants as command
use Rattle.word_theory.proofs.WordLemmas.{parsed_can}
use Rattle.command_words.specs.declared.fault.WordFault.{WordFault}
use Rattle.command_words.specs.declared.options.RunOptions.{RunOptions}
use Rattle.command_words.specs.Commands.{CanBeRun, IsParsedAs, OfOptions, SayParse}

pub asked_by : (told : Told) (name other : CommandName) (task : Task) (names : List (List ℕ)) → name ≡ other → AsksFor told other task names → AsksFor told name task names
asked_by told name other task names e asks = subst (λ n. AsksFor told n task names) (sym e) asks

-- nothing is asked for by options that say nothing
pub not_run : (told : Told) → ((asked : Asked) → ¬ (IsRunBy told asked)) → {task : Task} {names : List (List ℕ)} → AsksFor told Run task names → ⊥
not_run told none (asks_run {asked = asked} sheet text runs) = none asked runs

pub not_loaded : (told : Told) → ((asked : Asked) → ¬ (IsRunBy told asked)) → {task : Task} {names : List (List ℕ)} → AsksFor told Load task names → ⊥
not_loaded told none (asks_load {asked = asked} sheet seeds runs) = none asked runs

-- what follows of the options of a command
of_options : {P Q : RunOptions → Type 0} → ((options : RunOptions) → P options → Q options) → (asked : Command) → OfOptions P asked → OfOptions Q asked
of_options h (command.Tokens sheet text) is = tt
of_options h (command.Check sheet) is = tt
of_options h (command.Tables sheet) is = tt
of_options h (command.Run options sheet text) is = h options is
of_options h (command.Gen seed sheet) is = tt
of_options h (command.Load seed options sheet) is = h options is

-- what the values of arguments say, their words say
module _ (words : List (List ℕ)) (name : CommandName) (rest : List (List ℕ)) (told : Told) (are : words ≡ word_of name ∷ rest) (tells : told ≡ told_in name rest) where
  pub says_parse : (result : Result Command WordFault) → IfOk result (IsParsedAs told) → IfOk result (SayParse words)
  says_parse (Err fault) is = tt
  says_parse (Ok asked) is =
      of_options (λ options by. record { command = name; rest = rest; are = are; parsed_told = subst (λ t. IsParsedBy t options.cut options.workers) tells by }) asked is

-- and a text can be parsed as they say
pub can_be_run : (told : Told) (result : Result Command WordFault) → IfOk result (IsParsedAs told) → IfOk result CanBeRun
can_be_run told (Err fault) is = tt
can_be_run told (Ok asked) is =
    of_options (λ options by. let can : CanBeCut options.cut × CanWork options.workers = parsed_can told options.cut options.workers by in record { cut = can.0; workers = can.1 }) asked is
