use Rattle.std.proofs.Common.{ap}
use Rattle.join_rows.proofs.RowLemmas.{lawful_maps, text_numbers}
use Rattle.join_rows.proofs.seams.counts_by.Goals as goal

pub seam_counts-requires-clause-lawful : goal.seam_counts-requires-clause-lawful
seam_counts-requires-clause-lawful c =
    lawful_maps c.args.sheet.now.grammar c.args.built.now.tables c.new-arrows.result.0 c.requires.built.lawful (ap (λ x. x.0) c.new-arrows.ensures)

pub seam_counts-requires-clause-numbered : goal.seam_counts-requires-clause-numbered
seam_counts-requires-clause-numbered c = text_numbers c.args.built.now.tables c.args.tokens.now c.holds.ensures c.requires.tokens
