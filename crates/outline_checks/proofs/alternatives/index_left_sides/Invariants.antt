use Rattle.std.proofs.Common.{map, take}
use Rattle.outline_data.specs.GroupParts.{GroupParts}
use Rattle.outline_theory.specs.Words.{texts}
use Rattle.outline_checks.specs.WordSets.{IsSetOf}
use Rattle.outline_checks.proofs.alternatives.index_left_sides.Given as goal

abbrev pub invariant-loop-group : goal.invariant-loop-group
invariant-loop-group l = IsSetOf l.words (texts (map (λ (g : GroupParts). g.left) (take l.group-index l.groups)))
