use Rattle.std.proofs.Common.{◌≡◌, ◌+◌, ◌<◌, ◌≤◌, length, ap, sym, ◌∙◌, subst, arith}
use Rattle.std.proofs.lemmas.List.{length_push}
use Rattle.std.proofs.lemmas.List.Elements.{All-push}
use Rattle.grammar_data.specs.declared.rule.Sym.TheVariants.{Token}
use Rattle.table_data.specs.Tables.{step_by}
use Rattle.map_theory.specs.Relations.{AreShiftStarts}
use Rattle.state_sets.specs.Parts.{pairs_of}
use Rattle.state_sets.specs.Within.{AreWithin}
use Rattle.state_sets.proofs.ArrowLemmas.{if_ok}
use Rattle.state_sets.proofs.MakingLemmas.{IsMadeTo, made_skip, made_put, made_all, step_past}
use Rattle.state_sets.proofs.making.shift_starts.Goals as goal

pub loop-number-preserved-in_default : goal.loop-number-preserved-in_default
loop-number-preserved-in_default c = record {
  classed = c.loop-number.invariant.classed;
  made = made_skip (λ q. step_by c.args.t.now q (Token c.args.token)) c.loop-number.number (pairs_of c.loop-number.building.starts.items c.loop-number.building.classes.items c.loop-number.building.targets.keys) (sym c.step_from.ensures.step ∙ c.in_default.is) c.loop-number.invariant.made;
  within = c.loop-number.invariant.within;
  few = omega (arith, c.loop-number.invariant.few);
}

pub loop-number-preserved : goal.loop-number-preserved
loop-number-preserved c =
    let below : c.loop-number.number < c.args.t.now.states = omega (arith, c.loop-number-test.true, c.states-number-end.ensures.states) in
    record {
      classed = c.in_ok-put.ensures.classed;
      made = subst (IsMadeTo (λ q. step_by c.args.t.now q (Token c.args.token)) (c.loop-number.number + 1)) (sym c.in_ok-put.ensures.pair) (made_put (λ q. step_by c.args.t.now q (Token c.args.token)) c.loop-number.number c.in-Some.to (pairs_of c.loop-number.building.starts.items c.loop-number.building.classes.items c.loop-number.building.targets.keys) (sym c.in-Some.ensures.step) c.loop-number.invariant.made);
      within = subst (AreWithin c.args.t.now.states) (sym c.in_ok-put.ensures.pair) (All-push (λ x. (x.0 < c.args.t.now.states) × (x.1 < c.args.t.now.states)) (pairs_of c.loop-number.building.starts.items c.loop-number.building.classes.items c.loop-number.building.targets.keys) (c.loop-number.number, c.in-Some.to) c.loop-number.invariant.within (below, c.in-Some.ensures.within));
      few = omega (arith, c.loop-number.invariant.few, ap length c.in_ok-put.ensures.starts, length_push c.loop-number.building.starts.items c.loop-number.number);
    }

pub returns-clause-starts : goal.returns-clause-starts
returns-clause-starts c =
    let past : c.args.t.now.states ≤ c.loop-number.number = omega (arith, c.loop-number-test.false, c.states-number-end.ensures.states) in
    if_ok (λ m. m ≡ (pairs_of c.loop-number.building.starts.items c.loop-number.building.classes.items c.loop-number.building.targets.keys)) (AreShiftStarts c.args.t.now c.args.token) c.built.result c.built.ensures
    (λ m is. subst (AreShiftStarts c.args.t.now c.args.token) (sym is) (made_all (λ q. step_by c.args.t.now q (Token c.args.token)) c.loop-number.number (pairs_of c.loop-number.building.starts.items c.loop-number.building.classes.items c.loop-number.building.targets.keys) (λ q beyond. step_past c.args.t.now c.holds.ensures q (Token c.args.token) (omega arith)) c.loop-number.invariant.made))

pub returns-clause-within : goal.returns-clause-within
returns-clause-within c =
    if_ok (λ m. m ≡ (pairs_of c.loop-number.building.starts.items c.loop-number.building.classes.items c.loop-number.building.targets.keys)) (AreWithin c.args.t.now.states) c.built.result c.built.ensures
    (λ m is. subst (AreWithin c.args.t.now.states) (sym is) c.loop-number.invariant.within)
