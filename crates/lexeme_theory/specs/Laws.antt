-- Laws of what stands at a place of a sheet.
use Rattle.std.specs.Prelude.{◌≡◌, ℕ, ◌<◌, ◌≤◌, max, List, [], ◌++◌, length, All, ◌⊎◌}
use Rattle.std.specs.List.{flat_map}
use Rattle.scanning_theory.specs.Lines.{line_starts}
use Rattle.sheet_theory.specs.Names.{quote, double_quote, escaped_byte}
use Rattle.lexeme_theory.specs.declared.lexeme.Lexeme.{Lexeme}
use Rattle.lexeme_theory.specs.declared.found.Found.{Found}
use Rattle.lexeme_theory.specs.Escapes.{Spells}
use Rattle.lexeme_theory.specs.Lines.{line_of}
use Rattle.lexeme_theory.specs.Stands.{IsFound, IsBlank, IsLexeme}
use Rattle.lexeme_theory.specs.Reading.{Placed, AreBlanks, AreLexemes}

-- a place has one blank, lexeme or fault at most
abbrev pub OneFoundLaw : Type 0
OneFoundLaw = (bytes : List ℕ) (at : ℕ) (one other : Found) → IsFound bytes at one → IsFound bytes at other → one ≡ other

-- and each place before the end has one
abbrev pub SomeFoundLaw : Type 0
SomeFoundLaw = (bytes : List ℕ) (at : ℕ) → at < length bytes → (found : Found) × IsFound bytes at found

-- a blank ends behind its beginning, and no further than the bytes
abbrev pub BlankEndLaw : Type 0
BlankEndLaw = (bytes : List ℕ) (at next : ℕ) → IsBlank bytes at next → (at < next) × (next ≤ length bytes)

-- so does a lexeme
abbrev pub LexemeEndLaw : Type 0
LexemeEndLaw = (bytes : List ℕ) (at next : ℕ) (lexeme : Lexeme) → IsLexeme bytes at lexeme next → (at < next) × (next ≤ length bytes)

-- a text stands for one list of bytes at most
abbrev pub OneSpellingLaw : Type 0
OneSpellingLaw = (text one other : List ℕ) → Spells text one → Spells text other → one ≡ other

-- the lexemes between two places are one list
abbrev pub OneReadingLaw : Type 0
OneReadingLaw = (bytes : List ℕ) (from to : ℕ) (one other : List Placed) → AreLexemes bytes from one to → AreLexemes bytes from other to → one ≡ other

-- lexemes up to a place, and then those from it on, are the lexemes of the whole way
abbrev pub JoinLaw : Type 0
JoinLaw = (bytes : List ℕ) (from middle to : ℕ) (lexemes others : List Placed) → AreLexemes bytes from lexemes middle → AreLexemes bytes middle others to → AreLexemes bytes from (lexemes ++ others) to

-- blanks alone have no lexeme
abbrev pub BlanksLaw : Type 0
BlanksLaw = (bytes : List ℕ) (from to : ℕ) → AreBlanks bytes from to → AreLexemes bytes from [] to

-- the end of the bytes stands on the last line, and on line 1 where there is none
abbrev pub EndLineLaw : Type 0
EndLineLaw = (bytes : List ℕ) → line_of bytes (length bytes) ≡ max 1 (length (line_starts bytes))

-- what is printed of bytes between quotes stands for these bytes
abbrev pub PrintedLaw : Type 0
PrintedLaw = (closing : ℕ) (bytes : List ℕ) → (closing ≡ quote) ⊎ (closing ≡ double_quote) → All (λ byte. byte < 256) bytes → Spells (flat_map (escaped_byte closing) bytes) bytes
