-- The number of each fault, and its line: by them the faults of an outline are put in order.
use Rattle.std.specs.Prelude.{◌≡◌, ℕ, ◌<◌, ◌≤◌, ◌⊎◌}
use Rattle.outline_data.specs.declared.fault.SheetFault.{SheetFault}
use Rattle.outline_data.specs.declared.fault.SheetFault.TheVariants.{BadByte, Syntax, BadPattern, PatternMatchesEmpty, Redeclared, UnknownSymbol, NoRules, PlaceOutOfRange, PlaceTwice, NotAToken, Limit, NoMemory}

-- the fault's number; 0 where it has none
abbrev pub fault_number : SheetFault → ℕ
fault_number (BadByte line) = 1
fault_number (Syntax line) = 2
fault_number (BadPattern line) = 3
fault_number (PatternMatchesEmpty line) = 4
fault_number (Redeclared line) = 5
fault_number (UnknownSymbol line) = 6
fault_number NoRules = 7
fault_number (PlaceOutOfRange line) = 8
fault_number (PlaceTwice line) = 9
fault_number (NotAToken line) = 10
fault_number (Limit kind count) = 11
fault_number NoMemory = 0

-- the fault's line; 0 where it has none
abbrev pub fault_line : SheetFault → ℕ
fault_line (BadByte line) = line
fault_line (Syntax line) = line
fault_line (BadPattern line) = line
fault_line (PatternMatchesEmpty line) = line
fault_line (Redeclared line) = line
fault_line (UnknownSymbol line) = line
fault_line NoRules = 0
fault_line (PlaceOutOfRange line) = line
fault_line (PlaceTwice line) = line
fault_line (NotAToken line) = line
fault_line (Limit kind count) = 0
fault_line NoMemory = 0

-- the fault stands on an earlier line than the other, or on one line with it and has no greater number
abbrev pub IsNoLater : SheetFault → SheetFault → Type 0
IsNoLater fault other =
    (fault_line fault < fault_line other) ⊎ ((fault_line fault ≡ fault_line other) × (fault_number fault ≤ fault_number other))
