-- What every sheet keeps, whatever bytes it was read from.
use Rattle.std.specs.Prelude.{◌≡◌, ℕ, ◌+◌, ◌≤◌, List, [], ◌∷◌, length, sum_by, All}
use Rattle.lr_base.specs.declared.limits.TheConstants.{SKIPS, TOKENS}
use Rattle.scanning_theory.specs.declared.limits.TheConstants.{POSITIONS}
use Rattle.sheet_data.specs.Sheet.{Sheet}
use Rattle.sheet_data.specs.declared.parts.Decl.{Decl}
use Rattle.sheet_data.specs.declared.parts.Decl.TheVariants.{Literal, Matched, Skip}
use Rattle.sheet_theory.specs.Names.{declared_names}
use Rattle.outline_theory.specs.Limits.{skips_in, positions_in}
pub use Rattle.numbering_theory.specs.KeptSheets.{IsLiteralText, IsOrdinaryDecl}

-- the name that a declaration gives to its token, where it declares one
abbrev pub name_in : Decl → List (List ℕ)
name_in (Literal name bytes) = name ∷ []
name_in (Matched name pattern) = name ∷ []
name_in (Skip pattern) = []

pub record IsWellFormed (sheet : Sheet) : Type 0 where
  pub tokens : sheet.grammar.tokens ≡ length (declared_names sheet.decls) + length sheet.literals
  pub count : length (declared_names sheet.decls) + length sheet.literals ≤ TOKENS
  pub skips : sum_by skips_in sheet.decls ≤ SKIPS
  pub positions : sum_by positions_in sheet.decls + sum_by length sheet.literals ≤ POSITIONS
  pub decls : All IsOrdinaryDecl sheet.decls
  pub literals : All IsLiteralText sheet.literals
  pub names : sheet.grammar.names ≡ length sheet.names
  pub templates : length sheet.templates ≡ length sheet.grammar.rules
  pub declares : length sheet.declares ≡ length sheet.grammar.rules
