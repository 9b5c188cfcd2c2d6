-- How far a sheet is read, by the kinds of its lexemes alone: the grammar of sheets as an automaton.
use Rattle.std.specs.Prelude.{List, [], ◌∷◌, Option, None, Some, option_and_then}
use Rattle.lexeme_theory.specs.declared.lexeme.Lexeme.{Lexeme}
use Rattle.lexeme_theory.specs.declared.lexeme.Lexeme.TheVariants.{Name, Number, Fold, NumberOf, Quoted, Text, Pattern, Directive as directive_lexeme, Mark, Single as single_lexeme}
use Rattle.lexeme_theory.specs.declared.lexeme.Single.TheVariants.{Colon, Bar, Semicolon, LeftBrace, RightBrace}
use Rattle.lexeme_theory.specs.declared.lexeme.Directive.TheVariants.{Token, Skip, Start, Declares}
use Rattle.outline_theory.specs.Spelling.{Kept}

pub data Stage : Type 0 where
  -- between two declarations
  declarations : Stage
  -- behind `%token`, and behind its name
  token_name : Stage
  token_text : Stage
  skip_text : Stage
  start_name : Stage
  -- between two left sides
  rules : Stage
  -- behind a left side
  colon : Stage
  -- in a right side
  side : Stage
  -- between braces
  template : Stage
  -- behind a template or a mark
  behind : Stage
  -- behind `%declares`
  mark_place : Stage
  -- behind the second `%%`
  ended : Stage

abbrev pub from_declarations : Lexeme → Option Stage
from_declarations (directive_lexeme Token) = Some token_name
from_declarations (directive_lexeme Skip) = Some skip_text
from_declarations (directive_lexeme Start) = Some start_name
from_declarations Mark = Some rules
from_declarations lexeme = None

abbrev pub from_token_name : Lexeme → Option Stage
from_token_name (Name bytes) = Some token_text
from_token_name lexeme = None

abbrev pub from_token_text : Lexeme → Option Stage
from_token_text (Quoted bytes) = Some declarations
from_token_text (Pattern bytes) = Some declarations
from_token_text lexeme = None

abbrev pub from_skip_text : Lexeme → Option Stage
from_skip_text (Pattern bytes) = Some declarations
from_skip_text lexeme = None

abbrev pub from_start_name : Lexeme → Option Stage
from_start_name (Name bytes) = Some declarations
from_start_name lexeme = None

abbrev pub from_rules : Lexeme → Option Stage
from_rules (Name bytes) = Some colon
from_rules Mark = Some ended
from_rules lexeme = None

abbrev pub from_colon : Lexeme → Option Stage
from_colon (single_lexeme Colon) = Some side
from_colon lexeme = None

abbrev pub from_side : Lexeme → Option Stage
from_side (Name bytes) = Some side
from_side (Quoted bytes) = Some side
from_side (single_lexeme LeftBrace) = Some template
from_side (directive_lexeme Declares) = Some mark_place
from_side (single_lexeme Bar) = Some side
from_side (single_lexeme Semicolon) = Some rules
from_side lexeme = None

abbrev pub from_template : Lexeme → Option Stage
from_template (Text bytes) = Some template
from_template (Fold n) = Some template
from_template (NumberOf n) = Some template
from_template (single_lexeme RightBrace) = Some behind
from_template lexeme = None

abbrev pub from_behind : Lexeme → Option Stage
from_behind (directive_lexeme Declares) = Some mark_place
from_behind (single_lexeme Bar) = Some side
from_behind (single_lexeme Semicolon) = Some rules
from_behind lexeme = None

abbrev pub from_mark_place : Lexeme → Option Stage
from_mark_place (Number n) = Some behind
from_mark_place lexeme = None

-- the stage behind one more lexeme; none where no sheet goes on with it
abbrev pub next_stage : Stage → Lexeme → Option Stage
next_stage declarations lexeme = from_declarations lexeme
next_stage token_name lexeme = from_token_name lexeme
next_stage token_text lexeme = from_token_text lexeme
next_stage skip_text lexeme = from_skip_text lexeme
next_stage start_name lexeme = from_start_name lexeme
next_stage rules lexeme = from_rules lexeme
next_stage colon lexeme = from_colon lexeme
next_stage side lexeme = from_side lexeme
next_stage template lexeme = from_template lexeme
next_stage behind lexeme = from_behind lexeme
next_stage mark_place lexeme = from_mark_place lexeme
next_stage ended lexeme = None

-- the stage behind these lexemes
abbrev pub stage_after : Stage → List Kept → Option Stage
stage_after stage [] = Some stage
stage_after stage (lexeme ∷ lexemes) = option_and_then (λ next. stage_after next lexemes) (next_stage stage lexeme.0)
