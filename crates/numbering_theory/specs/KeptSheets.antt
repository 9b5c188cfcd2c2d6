-- The sheet that an outline says where some declarations are kept: its limits, and what they leave of it.
use Rattle.std.specs.Prelude.{◌≡◌, ◌≢◌, ℕ, ◌+◌, ◌≤◌, List, [], length, sum_by, All, Contains, Some, None}
use Rattle.lr_base.specs.declared.limits.TheConstants.{SIDE_SYMBOLS, SKIPS, TOKENS}
use Rattle.outline_data.specs.declared.fault.SheetFault.{SheetFault}
use Rattle.outline_data.specs.declared.fault.SheetFault.TheVariants.{BadByte, Syntax, BadPattern, PatternMatchesEmpty, Redeclared, UnknownSymbol, NoRules, PlaceOutOfRange, PlaceTwice, NotAToken, Limit, NoMemory}
use Rattle.outline_data.specs.Parts.{OutlineParts}
use Rattle.pattern_data.specs.Language.{Matches}
use Rattle.scanning_theory.specs.declared.limits.TheConstants.{POSITIONS}
use Rattle.sheet_data.specs.Sheet.{Sheet}
use Rattle.sheet_data.specs.declared.parts.Decl.{Decl}
use Rattle.sheet_data.specs.declared.parts.Decl.TheVariants.{Literal, Matched, Skip}
use Rattle.outline_data.specs.AlternativeParts.{AlternativeParts}
use Rattle.outline_data.specs.GroupParts.{GroupParts}
use Rattle.outline_theory.specs.Words.{token_words}
use Rattle.outline_theory.specs.Numbering.{unnamed_literals}
use Rattle.outline_theory.specs.Limits.{Measure, measures, first_passed, skips_in, positions_in}

-- no limit is passed by the sheet
abbrev pub KeepsLimits : Sheet → Type 0
KeepsLimits sheet = first_passed (measures sheet) ≡ None

-- a limit is passed by it, and this is the fault of the first
pub record IsPassedBy (sheet : Sheet) (fault : SheetFault) : Type 0 where
  pub measure : Measure
  pub passed : first_passed (measures sheet) ≡ Some measure
  pub is : fault ≡ Limit measure.kind measure.count

-- want of memory, or the first limit that the sheet passes
abbrev pub IsLimitFault : Sheet → SheetFault → Type 0
IsLimitFault sheet (BadByte line) = ⊥
IsLimitFault sheet (Syntax line) = ⊥
IsLimitFault sheet (BadPattern line) = ⊥
IsLimitFault sheet (PatternMatchesEmpty line) = ⊥
IsLimitFault sheet (Redeclared line) = ⊥
IsLimitFault sheet (UnknownSymbol line) = ⊥
IsLimitFault sheet NoRules = ⊥
IsLimitFault sheet (PlaceOutOfRange line) = ⊥
IsLimitFault sheet (PlaceTwice line) = ⊥
IsLimitFault sheet (NotAToken line) = ⊥
IsLimitFault sheet (Limit kind count) = IsPassedBy sheet (Limit kind count)
IsLimitFault sheet NoMemory = Unit {0}

-- there are bytes, and none is the line feed
abbrev pub IsLiteralText : List ℕ → Type 0
IsLiteralText bytes = (bytes ≢ []) × (¬ (Contains bytes 10))

-- a declaration of a literal, or of a pattern that has no empty string
abbrev pub IsOrdinaryDecl : Decl → Type 0
IsOrdinaryDecl (Literal name bytes) = IsLiteralText bytes
IsOrdinaryDecl (Matched name pattern) = ¬ (Matches pattern [])
IsOrdinaryDecl (Skip pattern) = ¬ (Matches pattern [])

-- each right side has at most 20 symbols
abbrev pub AreShort : GroupParts → Type 0
AreShort g = All (λ (a : AlternativeParts). length a.right ≤ SIDE_SYMBOLS) g.alternatives

-- what the limits and the want of faults leave of literals, patterns and right sides
pub record IsOrdinary (o : OutlineParts) (decls : List Decl) : Type 0 where
  pub tokens : length (token_words o) + length (unnamed_literals o) ≤ TOKENS
  pub skips : sum_by skips_in decls ≤ SKIPS
  pub positions : sum_by positions_in decls + sum_by length (unnamed_literals o) ≤ POSITIONS
  pub kept : All IsOrdinaryDecl decls
  pub literals : All IsLiteralText (unnamed_literals o)
  pub short : All AreShort o.groups
