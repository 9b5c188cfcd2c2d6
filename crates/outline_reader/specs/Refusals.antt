-- Why a lexeme isn't taken.
use Rattle.std.specs.Prelude.{◌≡◌, ℕ, List, Option, None}
use Rattle.lexeme_theory.specs.declared.found.FaultKind.TheVariants.{BadByte, Syntax}
use Rattle.outline_data.specs.declared.fault.SheetFault.{SheetFault}
use Rattle.stage_theory.specs.Drafts.{Draft}
use Rattle.sheet_lexemes.specs.Cursors.{IsFaultOn}
use Rattle.outline_reader.specs.Faults.{IsReadingFault}

-- a lexeme on a line isn't taken by the draft that has this next one: there is none
abbrev pub IsRefused : Option Draft → ℕ → SheetFault → Type 0
IsRefused next line fault = IsReadingFault (λ on. ⊥) (λ on. (next ≡ None) × (on ≡ line)) fault

-- no lexeme stands behind the blanks
abbrev pub IsNoLexeme : List ℕ → ℕ → SheetFault → Type 0
IsNoLexeme bytes from fault = IsReadingFault (IsFaultOn bytes from BadByte) (IsFaultOn bytes from Syntax) fault
