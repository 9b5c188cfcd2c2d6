-- How bytes are an outline, and where they stop being one: the first fault of the reading from left to right.
use Rattle.std.specs.Prelude.{◌≡◌, ℕ, true, List, [], ◌∷◌, ◌++◌, length, map, MatchBool}
use Rattle.lexeme_theory.specs.declared.lexeme.Lexeme.{Lexeme}
use Rattle.lexeme_theory.specs.declared.found.FaultKind.{FaultKind}
use Rattle.lexeme_theory.specs.declared.found.FaultKind.TheVariants.{Syntax}
use Rattle.lexeme_theory.specs.Lines.{line_of}
use Rattle.lexeme_theory.specs.Stands.{IsLexeme, BeginsFault}
use Rattle.lexeme_theory.specs.Reading.{Placed, placed_in, AreLexemes}
use Rattle.outline_data.specs.Parts.{OutlineParts}
use Rattle.outline_theory.specs.Spelling.{Kept, kept, spelled_outline, IsShaped}

-- the lexemes of the bytes spell the outline, up to the end of the bytes or up to the `%%` that ends the rules
pub record IsOutlineOf (bytes : List ℕ) (outline : OutlineParts) : Type 0 where
  pub lexemes : List Placed
  pub to : ℕ
  pub read : AreLexemes bytes 0 lexemes to
  pub spelled : map kept lexemes ≡ spelled_outline outline
  pub shaped : IsShaped outline
  pub ended : MatchBool outline.has_rest (Unit {0}) (to ≡ length bytes)

-- some sheet begins with these lexemes
pub record BeginsSheet (lexemes : List Kept) : Type 0 where
  pub outline : OutlineParts
  pub shaped : IsShaped outline
  pub rest : List Kept
  pub spelled : spelled_outline outline ≡ lexemes ++ rest

-- these lexemes are a sheet's
pub record IsWholeSheet (lexemes : List Kept) : Type 0 where
  pub outline : OutlineParts
  pub shaped : IsShaped outline
  pub spelled : spelled_outline outline ≡ lexemes

-- a second `%%` ended the sheet
pub record IsEnded (lexemes : List Kept) : Type 0 where
  pub outline : OutlineParts
  pub shaped : IsShaped outline
  pub rest : outline.has_rest ≡ true
  pub spelled : spelled_outline outline ≡ lexemes

-- what is wrong at a place behind these lexemes: no lexeme stands there, no sheet goes on with the one that does, or the
-- bytes end before a sheet is whole
pub data IsWrongAt (bytes : List ℕ) (lexemes : List Kept) (at : ℕ) : FaultKind → Type 0 where
  no_lexeme : {kind : FaultKind} → BeginsFault bytes at kind → IsWrongAt bytes lexemes at kind
  no_sheet_goes_on : {lexeme : Lexeme} {next : ℕ} → IsLexeme bytes at lexeme next → ¬ (BeginsSheet (lexemes ++ kept (placed_in bytes at lexeme) ∷ [])) → IsWrongAt bytes lexemes at Syntax
  no_whole_sheet : at ≡ length bytes → ¬ (IsWholeSheet lexemes) → IsWrongAt bytes lexemes at Syntax

-- some sheet begins with the lexemes before the place, none of which ended it, and then this is wrong
pub record IsLexicalFault (bytes : List ℕ) (kind : FaultKind) (line : ℕ) : Type 0 where
  pub lexemes : List Placed
  pub at : ℕ
  pub read : AreLexemes bytes 0 lexemes at
  pub begins : BeginsSheet (map kept lexemes)
  pub not_ended : ¬ (IsEnded (map kept lexemes))
  pub wrong : IsWrongAt bytes (map kept lexemes) at kind
  pub on : line ≡ line_of bytes at
