-- What the parts of a lexeme say of the lexeme.
use Rattle.std.specs.Prelude.{ℕ, if◌then◌else◌, List, Option, None, Some}
use Rattle.lexeme_theory.specs.declared.lexeme.Lexeme.{Lexeme}
use Rattle.lexeme_theory.specs.declared.found.Found.{Found}
use Rattle.lexeme_theory.specs.declared.found.Found.TheVariants.{Lexeme as lexeme_found, Fault as fault_found}
use Rattle.lexeme_theory.specs.declared.found.FaultKind.{FaultKind}
use Rattle.lexeme_theory.specs.declared.found.FaultKind.TheVariants.{BadByte, Syntax}
use Rattle.lexeme_theory.specs.declared.begin.Begin.{Begin}
use Rattle.lexeme_theory.specs.declared.begin.Begin.TheVariants.{Blank, LineComment, BlockComment, Name, Number, Fold, NumberOf, Quoted, Text as text_begins, Pattern, Directive, Mark, Single, BadByte as bad_byte_begins, Nothing}
use Rattle.lexeme_theory.specs.Texts.{is_closed, has_bad_byte}
use Rattle.lexeme_theory.specs.Stands.{syntax_fault}
use Rattle.sheet_lexemes.specs.declared.numbers.Digits.{Digits}
use Rattle.sheet_lexemes.specs.declared.texts.Written.{Written}
use Rattle.sheet_lexemes.specs.declared.texts.Written.TheVariants.{Text, Fault}

-- a lexeme of a number, or a fault where there are too many digits
abbrev pub numbered : (ℕ → Lexeme) → Option Digits → Found
numbered number None = syntax_fault
numbered number (Some digits) = lexeme_found (number digits.value) digits.next

-- a lexeme of bytes, or a fault
abbrev pub written_as : (List ℕ → Lexeme) → Written → Found
written_as lexeme (Text bytes next) = lexeme_found (lexeme bytes) next
written_as lexeme (Fault kind) = fault_found kind

-- why a text from `from` up to `to` is no lexeme, whatever it spells
abbrev pub fault_of_text : ℕ → List ℕ → ℕ → ℕ → Option FaultKind
fault_of_text closing bytes from to =
    if has_bad_byte bytes from to then Some BadByte else (if is_closed closing bytes to then None else Some Syntax)

-- a lexeme whose bytes are kept: a name, or a text between two of its closing byte
abbrev pub KeepsBytes : Begin → Type 0
KeepsBytes Blank = ⊥
KeepsBytes LineComment = ⊥
KeepsBytes BlockComment = ⊥
KeepsBytes Name = Unit {0}
KeepsBytes Number = ⊥
KeepsBytes Fold = ⊥
KeepsBytes NumberOf = ⊥
KeepsBytes Quoted = Unit {0}
KeepsBytes text_begins = Unit {0}
KeepsBytes Pattern = Unit {0}
KeepsBytes Directive = ⊥
KeepsBytes Mark = ⊥
KeepsBytes (Single single) = ⊥
KeepsBytes bad_byte_begins = ⊥
KeepsBytes Nothing = ⊥
