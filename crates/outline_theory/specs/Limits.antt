-- The limits of a sheet, in the order in which they are looked at.
use Rattle.std.specs.Prelude.{ℕ, ◌+◌, nat_lt, if◌then◌else◌, List, [], ◌∷◌, length, sum_by, Option, None, Some}
use Rattle.lr_base.specs.declared.limits.TheConstants.{TOKENS, SKIPS, NAMES, RULES, SIDE_SYMBOLS, SYMBOLS}
use Rattle.grammar_data.specs.Grammar.{Rule}
use Rattle.pattern_data.specs.Language.{positions_of}
use Rattle.scanning_theory.specs.declared.limits.TheConstants.{POSITIONS}
use Rattle.sheet_data.specs.Sheet.{Sheet}
use Rattle.sheet_data.specs.declared.parts.Decl.{Decl}
use Rattle.sheet_data.specs.declared.parts.Decl.TheVariants.{Literal, Matched, Skip}
use Rattle.outline_data.specs.declared.fault.LimitKind.{LimitKind}
use Rattle.outline_data.specs.declared.fault.LimitKind.TheVariants.{Tokens, Skips, Names, Rules, RightSide, Symbols, Positions}

-- a quantity of a sheet, and the most that it may be
pub record Measure : Type 0 where
  pub kind : LimitKind
  pub count : ℕ
  pub most : ℕ

abbrev pub skips_in : Decl → ℕ
skips_in (Literal name bytes) = 0
skips_in (Matched name pattern) = 0
skips_in (Skip pattern) = 1

-- the positions of a declaration: the bytes of a literal, or those of a pattern
abbrev pub positions_in : Decl → ℕ
positions_in (Literal name bytes) = length bytes
positions_in (Matched name pattern) = positions_of pattern
positions_in (Skip pattern) = positions_of pattern

-- the length of the first right side that is too long; 0 where none is
abbrev pub long_side : List Rule → ℕ
long_side [] = 0
long_side (rule ∷ rules) = if nat_lt SIDE_SYMBOLS (length rule.1) then length rule.1 else long_side rules

abbrev pub measures : Sheet → List Measure
measures sheet =
    record { kind = Tokens; count = sheet.grammar.tokens; most = TOKENS }
    ∷ record { kind = Skips; count = sum_by skips_in sheet.decls; most = SKIPS }
    ∷ record { kind = Names; count = sheet.grammar.names; most = NAMES }
    ∷ record { kind = Rules; count = length sheet.grammar.rules; most = RULES }
    ∷ record { kind = RightSide; count = long_side sheet.grammar.rules; most = SIDE_SYMBOLS }
    ∷ record { kind = Symbols; count = sum_by (λ (rule : Rule). length rule.1) sheet.grammar.rules; most = SYMBOLS }
    ∷ record { kind = Positions; count = sum_by positions_in sheet.decls + sum_by length sheet.literals; most = POSITIONS }
    ∷ []

-- the first quantity that passes its limit
abbrev pub first_passed : List Measure → Option Measure
first_passed [] = None
first_passed (measure ∷ measures) = if nat_lt measure.most measure.count then Some measure else first_passed measures
