use Rattle.std.proofs.Common.{refl}
use Rattle.sheet_reader.proofs.MadeLemmas.{sheet_parts, sheet_made, well_made}
use Rattle.sheet_reader.proofs.sheet.Sheet.of_outline.Goals as goal

pub invariant_of-result : goal.invariant_of-result
invariant_of-result c =
    well_made c.args.outline _ (sheet_parts c.args.outline _ _ c.args.numbered c.outline.view_is c.requires.decls c.requires.numbers refl refl refl c.in_ok-templates.ensures.templates c.in_ok-templates.ensures.declares) c.requires.ordinary

pub returns : goal.returns
returns c =
    sheet_made c.args.outline _ (sheet_parts c.args.outline _ _ c.args.numbered c.outline.view_is c.requires.decls c.requires.numbers refl refl refl c.in_ok-templates.ensures.templates c.in_ok-templates.ensures.declares)
