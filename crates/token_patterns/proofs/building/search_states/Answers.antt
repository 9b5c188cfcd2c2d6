use Rattle.std.proofs.Common.{◌≡◌, ◌+◌, ◌/◌, length, subst, ap, ◌∙◌, arith}
use Rattle.std.specs.Prelude.{sum, map}
use Rattle.pattern_data.specs.Language.{positions_of}
use Rattle.position_theory.specs.Positions.{count_all}
use Rattle.position_theory.proofs.LayerLemmas.{sum_counts}
use Rattle.position_sets.specs.Joints.{AreJoint}
use Rattle.token_patterns.proofs.building.search_states.Goals as goal

pub overflow_add-size : goal.overflow_add-size
overflow_add-size c =
    let same : sum (map positions_of c.args.patterns.now) ≡ count_all c.args.patterns.now = sum_counts c.args.patterns.now in
    omega (arith, same, c.requires.positions, c.requires.count, c.count_together-count.ensures)

pub join_patterns-requires-clause-small : goal.join_patterns-requires-clause-small
join_patterns-requires-clause-small c =
    let same : sum (map positions_of c.args.patterns.now) ≡ count_all c.args.patterns.now = sum_counts c.args.patterns.now in
    omega (arith, same, c.requires.positions, c.requires.count, c.count_together-count.ensures)

pub loop-state-init : goal.loop-state-init
loop-state-init c = record { search = c.in_ok-search.ensures.search c.args.patterns.now; inside = omega arith }

pub expand-requires-clause-setting : goal.expand-requires-clause-setting
expand-requires-clause-setting c =
    let same : sum (map positions_of c.args.patterns.now) ≡ count_all c.args.patterns.now = sum_counts c.args.patterns.now in
    let count : c.count_together-count.result ≡ count_all c.args.patterns.now = omega (arith, same, c.requires.positions, c.count_together-count.ensures) in
    record {
      joint = subst (λ n. AreJoint c.args.patterns.now n ((c.count_together-count.result + length c.args.patterns.now) / 64 + 1) c.in_ok-joint.joint.positions.items c.in_ok-joint.joint.front.items) count c.in_ok-joint.ensures;
      masks_are = rw c.deref-in-loop-state.ensures.value (rw c.deref.ensures.value at c.in_ok-masks.ensures.masks);
      mask_sets = rw c.deref-in-loop-state.ensures.value c.in_ok-masks.ensures.sets;
      mask_count = ap length c.deref-in-loop-state.ensures.value ∙ c.in_ok-masks.ensures.count;
      few_patterns = c.requires.count;
      few_positions = omega (arith, same, c.requires.positions);
    }

pub join_patterns-requires-clause-behind : goal.join_patterns-requires-clause-behind
join_patterns-requires-clause-behind c =
    let same : sum (map positions_of c.args.patterns.now) ≡ count_all c.args.patterns.now = sum_counts c.args.patterns.now in
    omega (arith, same, c.requires.positions, c.count_together-count.ensures)
