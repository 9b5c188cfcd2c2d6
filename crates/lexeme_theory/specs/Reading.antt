-- The lexemes from a place of a sheet up to another.
use Rattle.std.specs.Prelude.{◌≡◌, ℕ, List, [], ◌∷◌}
use Rattle.lexeme_theory.specs.declared.lexeme.Lexeme.{Lexeme}
use Rattle.lexeme_theory.specs.Lines.{line_of}
use Rattle.lexeme_theory.specs.Stands.{IsBlank, IsLexeme}

-- a lexeme, the place where it begins, and its line
pub record Placed : Type 0 where
  pub lexeme : Lexeme
  pub at : ℕ
  pub line : ℕ

abbrev pub placed_in : List ℕ → ℕ → Lexeme → Placed
placed_in bytes at lexeme = record { lexeme = lexeme; at = at; line = line_of bytes at }

-- blanks alone, or none, stand from a place up to `to`
pub data AreBlanks (bytes : List ℕ) : ℕ → ℕ → Type 0 where
  no_blank : {from to : ℕ} → from ≡ to → AreBlanks bytes from to
  one_blank : {from next to : ℕ} → IsBlank bytes from next → AreBlanks bytes next to → AreBlanks bytes from to

-- these lexemes stand from a place up to `to`, with blanks before, between and behind them
pub data AreLexemes (bytes : List ℕ) : ℕ → List Placed → ℕ → Type 0 where
  no_lexeme : {from to : ℕ} → from ≡ to → AreLexemes bytes from [] to
  blank_first : {from next to : ℕ} {lexemes : List Placed} → IsBlank bytes from next → AreLexemes bytes next lexemes to → AreLexemes bytes from lexemes to
  lexeme_first : {from next to : ℕ} {lexeme : Lexeme} {rest all : List Placed} → IsLexeme bytes from lexeme next → AreLexemes bytes next rest to → all ≡ placed_in bytes from lexeme ∷ rest → AreLexemes bytes from all to
