use Rattle.std.proofs.Common.{◌≡◌, ℕ, ◌+◌, ◌-◌, ◌<◌, List, [], length, drop, sym, subst, arith}
use Rattle.pattern_data.specs.declared.pattern.Pattern.{Pattern}
use Rattle.pattern_data.specs.Language.{Matches}
use Rattle.position_sets.specs.declared.following.Position.{Position}
use Rattle.position_sets.specs.Joints.{AreJoint}
use Rattle.position_sets.specs.Sets.{IsSetOfWords}
use Rattle.position_sets.proofs.JointLemmas.{joint_none, joint_room, joint_before}
use Rattle.position_sets.proofs.joint.join_patterns.Goals as goal

pub loop-at-init : goal.loop-at-init
loop-at-init c =
    let patterns = c.args.patterns.now in
    record {
      inside = omega arith;
      joint = subst (λ (x : List Position). AreJoint (drop (length patterns) patterns) (c.args.ends + length patterns) c.args.size x c.in_ok-front.front.items) (sym c.new-positions.ensures.items)
          (joint_none patterns (c.args.ends + length patterns) c.args.size c.in_ok-front.front.items c.in_ok-front.ensures.set c.in_ok-front.ensures.none);
    }

pub follow-requires-clause-room : goal.follow-requires-clause-room
follow-requires-clause-room c =
    joint_room c.args.patterns.now c.loop-at.at c.index-patterns-at.result (omega arith) c.loop-at.invariant.inside c.index-patterns-at.is c.args.ends c.args.size c.loop-at.positions.items c.loop-at.positions.items c.loop-at.front.items
    c.loop-at.invariant.joint c.requires.behind c.requires.room

pub loop-at-preserved : goal.loop-at-preserved
loop-at-preserved c =
    let patterns = c.args.patterns.now in
    let at = c.loop-at.at in
    let p = c.index-patterns-at.result in
    let h = c.loop-at.invariant.joint in
    let g = c.in_ok-begins.ensures in
    let same = c.deref-in-loop-at.ensures.value in
    let inside : at - 1 < length patterns = omega arith in
    let some : Matches p [] → ⊥ = subst (λ (x : Pattern). Matches x [] → ⊥) (sym c.index-patterns-at.is) (c.requires.none_empty (at - 1) p inside) in
    record {
      inside = omega arith;
      joint = joint_before patterns at p (omega arith) c.loop-at.invariant.inside c.index-patterns-at.is c.args.ends c.args.size c.loop-at.positions.items c.follow.new.positions.items c.loop-at.front.items
          c.in_ok-begins.begins.items c.union.new.set.items c.in_ok-end.end.items c.deref.result.now c.deref.ensures.value h g c.in_ok-end.ensures.has some
          (c.union.ensures.set c.args.size h.front_set (subst (λ (ws : List ℕ). IsSetOfWords c.args.size ws) (sym same) g.2.front_set)) (rw same at c.union.ensures.places);
    }

pub returns : goal.returns
returns c =
    let none : c.loop-at.at ≡ 0 = omega arith in
    let here : c.args.ends + c.loop-at.at ≡ c.args.ends = omega arith in
    let P : ℕ → ℕ → Type 0 = λ n e. AreJoint (drop n c.args.patterns.now) e c.args.size c.loop-at.positions.items c.loop-at.front.items in
    subst (λ n. P n c.args.ends) none (subst (P c.loop-at.at) here c.loop-at.invariant.joint)
