use Rattle.std.proofs.Common.{◌≡◌, slice_index_or, refl, subst, arith}
use Rattle.std.proofs.lemmas.Grind.{common_steps}
use Rattle.map_theory.specs.Relations.{IsRestricted}
use Rattle.arrow_table.specs.Looks.{HasMap, map_at}
use Rattle.segment_parser.specs.Working.{made_fresh}
use Rattle.segment_parser.proofs.leaf.Leaf.freshen.Goals as goal

pub returns-in_ok-fresh-clause-fresh : goal.returns-in_ok-fresh-clause-fresh
returns-in_ok-fresh-clause-fresh c =
    let at : c.index.result.now ≡ slice_index_or c.args.self.now.ids.items c.args.depth 0 = grind (arith, common_steps, c.index.ensures) in
    made_fresh c.in_ok-fresh.fresh (omega arith) refl refl (subst (λ n. HasMap c.restrict.new.self.1 c.in_ok-fresh.fresh (IsRestricted (map_at c.args.arrows.now.1 n) (map_at c.args.arrows.now.1 c.args.self.now.starts))) at c.in_ok-fresh.ensures.restricted)
