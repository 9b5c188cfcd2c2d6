use Rattle.std.proofs.Common.{◌≤◌, length, map, ap, ◌∙◌, sym, ◌++◌, [], ◌∷◌, arith}
use Rattle.std.proofs.lemmas.List.{length_push, take_all}
use Rattle.state_sets.proofs.ArrowLemmas.{map_pair}
use Rattle.state_sets.proofs.choosing.to_themselves.Goals as goal

pub loop-i-preserved : goal.loop-i-preserved
loop-i-preserved c = record {
  classed = c.in_ok-put.ensures.classed;
  pairs = c.in_ok-put.ensures.pair ∙ ap (λ m. m ++ (c.pair-start.result.0, c.pair-start.result.0) ∷ []) c.loop-i.invariant.pairs ∙ sym (map_pair (λ pair. (pair.0, pair.0)) c.args.arrow.now c.loop-i.i c.pair-start.result c.pair-start.ensures);
  few = omega (arith, c.loop-i.invariant.few, ap length c.in_ok-put.ensures.starts, length_push c.loop-i.building.starts.items c.pair-start.result.0);
}

pub returns-clause-pairs : goal.returns-clause-pairs
returns-clause-pairs c =
    let past : length c.args.arrow.now ≤ c.loop-i.i = omega (arith, c.loop-i-test.false, c.len-i-end.ensures) in
    c.loop-i.invariant.pairs ∙ ap (map (λ pair. (pair.0, pair.0))) (take_all c.loop-i.i c.args.arrow.now past)
