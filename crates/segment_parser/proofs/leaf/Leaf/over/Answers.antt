use Rattle.std.proofs.Common.{◌≡◌, ◌-◌, ◌<◌, slice_index_or, subst, arith}
use Rattle.std.proofs.lemmas.Grind.{common_steps}
use Rattle.map_theory.specs.Relations.{IsRestricted}
use Rattle.arrow_table.specs.Looks.{HasMap, map_at}
use Rattle.segment_parser.specs.Retracing.{IsOver}
use Rattle.segment_parser.proofs.RetraceLemmas.{of_value, over_some}
use Rattle.segment_parser.proofs.leaf.Leaf.over.Goals as goal

pub returns-clause-over : goal.returns-clause-over
returns-clause-over c =
    let maps = c.args.arrows.now.1 in
    let new = c.restrict.new.self.1 in
    let s = c.args.self.now in
    let first = c.args.first in
    let some : 0 < first = grind arith in
    let at : c.index.result.now ≡ slice_index_or s.ids.items (first - 1) 0 = grind (arith, common_steps, c.index.ensures) in
    of_value c.restrict.result (λ to. HasMap new to (IsRestricted (map_at maps c.index.result.now) (map_at maps s.starts))) (IsOver maps new s first) (λ to has. over_some maps new s first to c.requires.maps some c.requires.first (subst (λ k. HasMap new to (IsRestricted (map_at maps k) (map_at maps s.starts))) at has)) c.restrict.ensures.restricted
