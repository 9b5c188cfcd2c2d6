-- Places of a sheet with their lines, and what is read from one.
use Rattle.std.specs.Prelude.{◌≡◌, ℕ, ◌<◌, ◌≤◌, List, length}
use Rattle.lexeme_theory.specs.declared.lexeme.Lexeme.{Lexeme}
use Rattle.lexeme_theory.specs.declared.found.FaultKind.{FaultKind}
use Rattle.lexeme_theory.specs.declared.found.FaultKind.TheVariants.{BadByte as bad_byte_kind, Syntax as syntax_kind}
use Rattle.lexeme_theory.specs.Lines.{line_of}
use Rattle.lexeme_theory.specs.Stands.{IsLexeme, BeginsFault}
use Rattle.lexeme_theory.specs.Reading.{AreBlanks}
use Rattle.lexeme_theory.specs.Begins.{begin_at}
use Rattle.sheet_lexemes.specs.Parts.{KeepsBytes}
use Rattle.sheet_lexemes.specs.declared.cursor.Cursor.{Cursor}
use Rattle.sheet_lexemes.specs.declared.fault.LexFault.{LexFault}
use Rattle.sheet_lexemes.specs.declared.fault.LexFault.TheVariants.{BadByte, Syntax, NoMemory}
use Rattle.sheet_lexemes.specs.declared.read.Read.{Read}
use Rattle.sheet_lexemes.specs.declared.read.Read.TheVariants.{Lexeme as lexeme_read, End}

-- the cursor stands in the bytes, or at their end, and has its line
pub record IsCursor (bytes : List ℕ) (cursor : Cursor) : Type 0 where
  pub inside : cursor.at ≤ length bytes
  pub line : cursor.line ≡ line_of bytes cursor.at

-- the lexeme behind the blanks
pub record IsLexemeRead (bytes : List ℕ) (from : ℕ) (lexeme : Lexeme) (begins behind : Cursor) : Type 0 where
  pub blanks : AreBlanks bytes from begins.at
  pub stands : IsLexeme bytes begins.at lexeme behind.at
  pub begin : IsCursor bytes begins
  pub end : IsCursor bytes behind

-- blanks alone up to the end
pub record IsEndRead (bytes : List ℕ) (from : ℕ) (end : Cursor) : Type 0 where
  pub blanks : AreBlanks bytes from end.at
  pub last : end.at ≡ length bytes
  pub stands : IsCursor bytes end

abbrev pub IsRead : List ℕ → ℕ → Read → Type 0
IsRead bytes from (lexeme_read lexeme begins behind) = IsLexemeRead bytes from lexeme begins behind
IsRead bytes from (End end) = IsEndRead bytes from end

-- the fault behind the blanks, on its line
pub record IsFaultOn (bytes : List ℕ) (from : ℕ) (kind : FaultKind) (line : ℕ) : Type 0 where
  pub at : ℕ
  pub blanks : AreBlanks bytes from at
  pub begins : BeginsFault bytes at kind
  pub on : line ≡ line_of bytes at

-- a lexeme whose bytes are kept, or a fault in one, begins behind the blanks
pub record NeedsMemory (bytes : List ℕ) (from : ℕ) : Type 0 where
  pub at : ℕ
  pub blanks : AreBlanks bytes from at
  pub inside : at < length bytes
  pub keeps : KeepsBytes (begin_at bytes at)

abbrev pub IsLexFault : List ℕ → ℕ → LexFault → Type 0
IsLexFault bytes from (BadByte line) = IsFaultOn bytes from bad_byte_kind line
IsLexFault bytes from (Syntax line) = IsFaultOn bytes from syntax_kind line
IsLexFault bytes from NoMemory = NeedsMemory bytes from
