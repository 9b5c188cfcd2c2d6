-- The faults that the reading of an outline finds.
use Rattle.std.specs.Prelude.{ℕ, List}
use Rattle.lexeme_theory.specs.declared.found.FaultKind.TheVariants.{BadByte as bad_byte_kind, Syntax as syntax_kind}
use Rattle.outline_data.specs.declared.fault.SheetFault.{SheetFault}
use Rattle.outline_data.specs.declared.fault.SheetFault.TheVariants.{BadByte, Syntax, BadPattern, PatternMatchesEmpty, Redeclared, UnknownSymbol, NoRules, PlaceOutOfRange, PlaceTwice, NotAToken, Limit, NoMemory}
use Rattle.outline_theory.specs.Outlines.{IsLexicalFault}

-- memory ran out, or it is a bad byte or a syntax fault, of whose line this holds; no other fault
abbrev pub IsReadingFault : (ℕ → Type 0) → (ℕ → Type 0) → SheetFault → Type 0
IsReadingFault bad_byte syntax (BadByte line) = bad_byte line
IsReadingFault bad_byte syntax (Syntax line) = syntax line
IsReadingFault bad_byte syntax (BadPattern line) = ⊥
IsReadingFault bad_byte syntax (PatternMatchesEmpty line) = ⊥
IsReadingFault bad_byte syntax (Redeclared line) = ⊥
IsReadingFault bad_byte syntax (UnknownSymbol line) = ⊥
IsReadingFault bad_byte syntax NoRules = ⊥
IsReadingFault bad_byte syntax (PlaceOutOfRange line) = ⊥
IsReadingFault bad_byte syntax (PlaceTwice line) = ⊥
IsReadingFault bad_byte syntax (NotAToken line) = ⊥
IsReadingFault bad_byte syntax (Limit kind count) = ⊥
IsReadingFault bad_byte syntax NoMemory = Unit {0}

-- the fault is the first of the reading from left to right
abbrev pub IsOutlineFault : List ℕ → SheetFault → Type 0
IsOutlineFault bytes fault = IsReadingFault (IsLexicalFault bytes bad_byte_kind) (IsLexicalFault bytes syntax_kind) fault
