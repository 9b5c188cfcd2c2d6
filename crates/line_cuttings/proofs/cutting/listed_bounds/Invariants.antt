use Rattle.std.proofs.Common.{◌≡◌, ◌∷◌, map, take}
use Rattle.cutting_theory.specs.Cuttings.{begin_of}
use Rattle.line_cuttings.proofs.cutting.listed_bounds.Given as goal

abbrev pub invariant-loop-line : goal.invariant-loop-line
invariant-loop-line l = l.bounds.items ≡ 0 ∷ map (begin_of l.lines) (take l.line-index l.begins)
