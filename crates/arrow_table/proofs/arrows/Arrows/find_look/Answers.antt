use Rattle.std.proofs.Common.{◌⊎◌, subst₂}
use Rattle.map_theory.specs.Agreements.{NoneLeft, AreSeveral}
use Rattle.arrow_table.specs.Looks.{NoneErrs}
use Rattle.arrow_table.proofs.LookLemmas.{stuck_by}
use Rattle.arrow_table.proofs.arrows.Arrows.find_look.Goals as goal

pub returns-in-NoneLeft-clause-look : goal.returns-in-NoneLeft-clause-look
returns-in-NoneLeft-clause-look c = (
  subst₂ (λ t m. NoneErrs t c.args.token m) c.tables.ensures c.map-map.ensures.map (c.some_errs.ensures.none c.if-some_errs.false),
  subst₂ (λ t m. NoneLeft t c.args.token m ⊎ AreSeveral t c.args.token m) c.tables-2.ensures c.map-map.ensures.map (stuck_by c.tables-2.result.now c.args.token c.map-map.result.now c.agree.result c.in-NoneLeft.is c.agree.ensures),
)
