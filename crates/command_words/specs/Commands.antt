-- What a command asks for, how its text is parsed, and the values that were told.
use Rattle.std.specs.Prelude.{List, [], ◌∷◌, ℕ, option_map}
use Rattle.tally_theory.specs.declared.asked.Asked.{Asked}
use Rattle.tally_theory.specs.declared.asked.Asked.TheVariants as asked
use Rattle.tally_theory.specs.declared.cut.Cut.{Cut}
use Rattle.tally_theory.specs.Cuts.{CanBeCut}
use Rattle.answer_theory.specs.declared.task.Task.{Task}
use Rattle.answer_theory.specs.declared.task.Task.TheVariants as task
use Rattle.word_theory.specs.Arguments.{Told}
use Rattle.word_theory.specs.Values.{CanWork}
use Rattle.word_theory.specs.Words.{HasParse, IsParsedBy}
use Rattle.command_words.specs.declared.command.Command.{Command}
use Rattle.command_words.specs.declared.command.Command.TheVariants.{Tokens, Check, Tables, Run, Gen, Load}
use Rattle.command_words.specs.declared.options.RunOptions.{RunOptions}
use Rattle.command_words.specs.declared.options.Want.{Want}
use Rattle.command_words.specs.declared.options.Want.TheVariants.{Text, Report}
use Rattle.command_words.specs.declared.arguments.Values.{Values}

-- what is asked of a text, by what is wanted of it: a report reads how it is cut, nothing reads the workers
abbrev pub asked_of : Want → Cut → Asked
asked_of (Text emit) cut = asked.Text emit
asked_of Report cut = asked.Report cut

-- a text can be parsed by these options
pub record CanParse (options : RunOptions) : Type 0 where
  pub cut : CanBeCut options.cut
  pub workers : CanWork options.workers

-- this holds of the options of a command, where it has a text that is parsed
abbrev pub OfOptions : (RunOptions → Type 0) → Command → Type 0
OfOptions P (Tokens sheet text) = Unit {0}
OfOptions P (Check sheet) = Unit {0}
OfOptions P (Tables sheet) = Unit {0}
OfOptions P (Run options sheet text) = P options
OfOptions P (Gen seed sheet) = Unit {0}
OfOptions P (Load seed options sheet) = P options

-- a command's text can be parsed
abbrev pub CanBeRun : Command → Type 0
CanBeRun command = OfOptions CanParse command

-- the values of arguments say that it is parsed so
abbrev pub IsParsedAs : Told → Command → Type 0
IsParsedAs told command = OfOptions (λ options. IsParsedBy told options.cut options.workers) command

-- the words say so
abbrev pub SayParse : List (List ℕ) → Command → Type 0
SayParse words command = OfOptions (λ options. HasParse words options.cut options.workers) command

-- the task of a command
abbrev pub task_of : Command → Task
task_of (Tokens sheet text) = task.Tokens
task_of (Check sheet) = task.Check
task_of (Tables sheet) = task.Tables
task_of (Run options sheet text) = task.Run (asked_of options.want options.cut)
task_of (Gen seed sheet) = task.Gen seed
task_of (Load seed options sheet) = task.Load seed (asked_of options.want options.cut)

-- the names of what it reads, the sheet's first
abbrev pub names_of : Command → List (List ℕ)
names_of (Tokens sheet text) = sheet.now ∷ text.now ∷ []
names_of (Check sheet) = sheet.now ∷ []
names_of (Tables sheet) = sheet.now ∷ []
names_of (Run options sheet text) = sheet.now ∷ text.now ∷ []
names_of (Gen seed sheet) = sheet.now ∷ []
names_of (Load seed options sheet) = sheet.now ∷ []

-- what was told, by the values of arguments
abbrev pub told_of : Values → Told
told_of values = record {
  sheet = option_map (λ s. s.now) values.sheet;
  text = option_map (λ s. s.now) values.text;
  emit = option_map (λ s. s.now) values.emit;
  workers = option_map (λ s. s.now) values.workers;
  cut = option_map (λ s. s.now) values.cut;
  at = option_map (λ s. s.now) values.at;
  from = option_map (λ s. s.now) values.from;
  size = option_map (λ s. s.now) values.size;
}
