-- What each command takes, as a command of the crate `clap`: positions and options with one value each, without flags for
-- help or a version; and what the crate finds in words. The crate gives both as functions of the command and the words.
use Rattle.std.specs.Prelude.{◌≡◌, ℕ, Bool, true, false, List, [], ◌∷◌, Option, Some, codes}
use Rattle.clap.specs.Words.{App, Kinds, Rule, fault_of, first_of, matches_of, new_app, new_rule}
use Rattle.word_theory.specs.declared.command_name.CommandName.{CommandName}
use Rattle.word_theory.specs.declared.command_name.CommandName.TheVariants.{Tokens, Check, Tables, Run, Gen, Load}

-- the command's word
abbrev pub word_of : CommandName → List ℕ
word_of Tokens = codes "tokens"
word_of Check = codes "check"
word_of Tables = codes "tables"
word_of Run = codes "run"
word_of Gen = codes "gen"
word_of Load = codes "load"

abbrev pub sheet_id : List ℕ
sheet_id = codes "SHEET"

abbrev pub text_id : List ℕ
text_id = codes "TEXT"

abbrev pub emit_id : List ℕ
emit_id = codes "emit"

abbrev pub workers_id : List ℕ
workers_id = codes "workers"

abbrev pub cut_id : List ℕ
cut_id = codes "cut"

abbrev pub at_id : List ℕ
at_id = codes "at"

abbrev pub from_id : List ℕ
from_id = codes "from"

abbrev pub size_id : List ℕ
size_id = codes "size"

-- a position, which has to be told
abbrev pub position : List ℕ → Rule
position id = record (new_rule id) { required = true }

-- an option with one value, by its name
abbrev pub option : List ℕ → Bool → Rule
option id required = record (new_rule id) { long = Some id; required = required }

abbrev pub arguments_of : CommandName → List Rule
arguments_of Tokens = position sheet_id ∷ position text_id ∷ []
arguments_of Check = position sheet_id ∷ []
arguments_of Tables = position sheet_id ∷ []
arguments_of Run = position sheet_id ∷ position text_id ∷ option emit_id false ∷ option workers_id false ∷ option cut_id false ∷ option at_id false ∷ []
arguments_of Gen = position sheet_id ∷ option from_id true ∷ option size_id true ∷ []
arguments_of Load = position sheet_id ∷ option emit_id false ∷ option workers_id false ∷ option cut_id false ∷ option at_id false ∷ option from_id true ∷ option size_id true ∷ []

-- a command with these arguments and nothing else, which is given the words after its own
abbrev pub taking : List ℕ → List Rule → App
taking name arguments = record {
  top = record (new_app name).top { rules = arguments; no_binary_name = true; disable_help_flag = true };
  subs = [];
}

abbrev pub app_of : CommandName → App
app_of name = taking (word_of name) (arguments_of name)

-- why the crate refuses words for a command; none where it takes them
unfoldable pub faults_in : CommandName → List (List ℕ) → Kinds
faults_in name words = fault_of (app_of name) words

abbrev pub IsTaken : CommandName → List (List ℕ) → Type 0
IsTaken name words = faults_in name words ≡ []

-- the values of arguments that are told
pub record Told : Type 0 where
  pub sheet : Option (List ℕ)
  pub text : Option (List ℕ)
  pub emit : Option (List ℕ)
  pub workers : Option (List ℕ)
  pub cut : Option (List ℕ)
  pub at : Option (List ℕ)
  pub from : Option (List ℕ)
  pub size : Option (List ℕ)

-- the values that words tell of a command's arguments, as the crate finds them
unfoldable pub told_in : CommandName → List (List ℕ) → Told
told_in name words =
    let rows = matches_of (app_of name) words in
    record {
      sheet = first_of sheet_id rows;
      text = first_of text_id rows;
      emit = first_of emit_id rows;
      workers = first_of workers_id rows;
      cut = first_of cut_id rows;
      at = first_of at_id rows;
      from = first_of from_id rows;
      size = first_of size_id rows;
    }
