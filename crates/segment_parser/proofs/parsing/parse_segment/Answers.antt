use Rattle.std.proofs.Common.{ℕ, List, IfOk, length, subst}
use Rattle.map_theory.specs.Maps.{StateMap}
use Rattle.table_data.specs.Tables.{Tables}
use Rattle.part_theory.specs.Parts.{HasParts}
use Rattle.segment_parser.proofs.parsing.parse_segment.Goals as goal

pub returns-clause-parts : goal.returns-clause-parts
returns-clause-parts c =
    subst (λ (arrows : Tables × List StateMap × ℕ). IfOk c.parse_segment_by.result (λ segment. HasParts arrows.0 c.args.tokens.now (length segment.block.closed))) c.new-arrows.ensures c.parse_segment_by.ensures.parts
