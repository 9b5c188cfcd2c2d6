-- The sheet that is made of an outline and its declarations.
use Rattle.std.proofs.Common.{List, refl}
use Rattle.sheet_data.specs.declared.parts.Decl.{Decl}
use Rattle.outline_data.specs.Parts.{OutlineParts}
use Rattle.outline_theory.specs.Numbering.{AreDecls, IsSheetOf}
use Rattle.outline_theory.specs.MadeSheets.{sheet_with}

-- the sheet with the declarations that are kept is the one that the outline says
pub sheet_says : (o : OutlineParts) (decls : List Decl) → AreDecls o.declarations decls → IsSheetOf o (sheet_with o decls)
sheet_says o decls are = record {
  decls = are;
  literals = refl;
  names = refl;
  tokens = refl;
  count = refl;
  rules = refl;
  start = refl;
  templates = refl;
  declares = refl;
}
