-- What is said of the fault of a sheet, and of that of its grammar.
use Rattle.std.specs.Prelude.{ℕ, List, [], ◌∷◌, ◌++◌, unwrap_or, slice_get, decimal, codes}
use Rattle.sheet_data.specs.Sheet.{Sheet}
use Rattle.outline_data.specs.declared.fault.LimitKind.{LimitKind}
use Rattle.outline_data.specs.declared.fault.LimitKind.TheVariants.{SheetBytes, Tokens, Skips, Names, Rules, RightSide, Symbols, Positions, ScannerStates}
use Rattle.outline_data.specs.declared.fault.SheetFault.{SheetFault}
use Rattle.outline_data.specs.declared.fault.SheetFault.TheVariants.{BadByte, Syntax, BadPattern, PatternMatchesEmpty, Redeclared, UnknownSymbol, NoRules, PlaceOutOfRange, PlaceTwice, NotAToken, Limit, NoMemory}
use Rattle.grammar_faults.specs.declared.fault.GrammarFault.{GrammarFault}
use Rattle.grammar_faults.specs.declared.fault.GrammarFault.TheVariants.{Unproductive, Unreachable, EmptyTooLarge, TooManyStates, Conflict, NoMemory as no_memory}
use Rattle.report_theory.specs.ItemTexts.{conflict_text}

-- a fault on a line: its number, the line, and what it is
abbrev pub said_on : ℕ → ℕ → List ℕ → List ℕ
said_on number line what = codes "sheet fault " ++ (decimal number ++ (codes ": line " ++ (decimal line ++ (codes ": " ++ (what ++ codes "\n")))))

abbrev pub kind_name : LimitKind → List ℕ
kind_name SheetBytes = codes "sheet bytes"
kind_name Tokens = codes "tokens"
kind_name Skips = codes "skips"
kind_name Names = codes "names"
kind_name Rules = codes "rules"
kind_name RightSide = codes "right side"
kind_name Symbols = codes "symbols"
kind_name Positions = codes "positions"
kind_name ScannerStates = codes "scanner states"

abbrev pub limit_said : LimitKind → ℕ → List ℕ
limit_said kind count = codes "sheet fault 11: too large: " ++ (kind_name kind ++ (32 ∷ (decimal count ++ codes "\n")))

abbrev pub fault_text : SheetFault → List ℕ
fault_text (BadByte line) = said_on 1 line (codes "bad byte")
fault_text (Syntax line) = said_on 2 line (codes "syntax")
fault_text (BadPattern line) = said_on 3 line (codes "bad pattern")
fault_text (PatternMatchesEmpty line) = said_on 4 line (codes "pattern matches the empty text")
fault_text (Redeclared line) = said_on 5 line (codes "redeclared")
fault_text (UnknownSymbol line) = said_on 6 line (codes "unknown symbol")
fault_text NoRules = codes "sheet fault 7: no rules\n"
fault_text (PlaceOutOfRange line) = said_on 8 line (codes "place out of range")
fault_text (PlaceTwice line) = said_on 9 line (codes "place used twice")
fault_text (NotAToken line) = said_on 10 line (codes "not a token")
fault_text (Limit kind count) = limit_said kind count
fault_text NoMemory = []

-- what is said of a name for which no tables are built
abbrev pub name_said : ℕ → List ℕ → List ℕ → List ℕ
name_said number what name = codes "sheet fault " ++ (decimal number ++ (what ++ (name ++ codes "\n")))

abbrev pub name_in : Sheet → ℕ → List ℕ
name_in sheet n = unwrap_or (slice_get sheet.names n) []

abbrev pub many_states_text : List ℕ
many_states_text = codes "sheet fault 15: more than 10000 states\n"

-- what is said of the fault of a sheet's grammar; of want of memory nothing
abbrev pub grammar_text : Sheet → GrammarFault → List ℕ
grammar_text sheet (Unproductive n) = name_said 12 (codes ": unproductive: ") (name_in sheet n)
grammar_text sheet (Unreachable n) = name_said 13 (codes ": unreachable: ") (name_in sheet n)
grammar_text sheet (EmptyTooLarge n) = name_said 14 (codes ": empty tree too large: ") (name_in sheet n)
grammar_text sheet TooManyStates = many_states_text
grammar_text sheet (Conflict conflict) = conflict_text sheet conflict
grammar_text sheet no_memory = []
