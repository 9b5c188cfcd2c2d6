-- The normal layout of a sheet.
use Rattle.std.specs.Prelude.{ℕ, ◌<◌, ◌≤◌, List, length, All}
use Rattle.sheet_data.specs.Sheet.{Sheet}
use Rattle.lr_base.specs.declared.limits.TheConstants.{SHEET_BYTES}
use Rattle.outline_theory.specs.Layout.{layout}
use Rattle.outline_theory.specs.Reading.{Reads}

-- the normal layout of a sheet reads as this sheet: of a sheet that was read from bytes, which are numbers below 256 (an
-- escape of two digits says no others), and whose layout is no longer than a sheet may be
abbrev pub LayoutLaw : Type 0
LayoutLaw = (bytes : List ℕ) (sheet : Sheet) → All (λ byte. byte < 256) bytes → Reads bytes sheet → length (layout sheet) ≤ SHEET_BYTES → Reads (layout sheet) sheet
