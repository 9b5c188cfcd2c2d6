use Rattle.std.proofs.Common.{◌≡◌, ◌≤◌, true, false, length, take, ap, ◌∙◌, sym, ◌++◌, [], ◌∷◌, append-nil, arith}
use Rattle.std.specs.Prelude.{filter, is_some, not}
use Rattle.std.proofs.lemmas.List.{length_push, take_all}
use Rattle.map_theory.specs.Maps.{target}
use Rattle.state_sets.proofs.ArrowLemmas.{filter_pair}
use Rattle.state_sets.proofs.choosing.kept.Goals as goal

pub loop-i-preserved-then-is_none : goal.loop-i-preserved-then-is_none
loop-i-preserved-then-is_none c =
    let fails : is_some (target c.args.keep.now c.pair-start.result.0) ≡ false = ap is_some (sym c.target.ensures) ∙ c.is_none.ensures ∙ ap not c.if-is_none.true in
    record {
      classed = c.loop-i.invariant.classed;
      pairs = c.loop-i.invariant.pairs ∙ sym (append-nil (filter (λ pair. is_some (target c.args.keep.now pair.0)) (take c.loop-i.i c.args.arrow.now))) ∙ sym (filter_pair (λ pair. is_some (target c.args.keep.now pair.0)) c.args.arrow.now c.loop-i.i c.pair-start.result false c.pair-start.ensures fails);
      few = omega (arith, c.loop-i.invariant.few);
    }

pub loop-i-preserved : goal.loop-i-preserved
loop-i-preserved c =
    let passes : is_some (target c.args.keep.now c.pair-start.result.0) ≡ true = ap is_some (sym c.target.ensures) ∙ c.is_none.ensures ∙ ap not c.if-is_none.false in
    record {
      classed = c.in_ok-put.ensures.classed;
      pairs = c.in_ok-put.ensures.pair ∙ ap (λ m. m ++ c.pair-start.result ∷ []) c.loop-i.invariant.pairs ∙ sym (filter_pair (λ pair. is_some (target c.args.keep.now pair.0)) c.args.arrow.now c.loop-i.i c.pair-start.result true c.pair-start.ensures passes);
      few = omega (arith, c.loop-i.invariant.few, ap length c.in_ok-put.ensures.starts, length_push c.loop-i.building.starts.items c.pair-start.result.0);
    }

pub returns-clause-pairs : goal.returns-clause-pairs
returns-clause-pairs c =
    let past : length c.args.arrow.now ≤ c.loop-i.i = omega (arith, c.loop-i-test.false, c.len-i-end.ensures) in
    c.loop-i.invariant.pairs ∙ ap (filter (λ pair. is_some (target c.args.keep.now pair.0))) (take_all c.loop-i.i c.args.arrow.now past)
