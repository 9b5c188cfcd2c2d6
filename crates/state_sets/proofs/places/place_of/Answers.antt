use Rattle.std.proofs.Common.{◌≡◌, ℕ, ◌+◌, ◌-◌, ◌/◌, ◌<◌, ◌≤◌, ◌⊎◌, inl, inr, List, length, get_or, sym, ap, ◌∙◌, arith}
use Rattle.std.specs.Prelude.{AllPairs}
use Rattle.std.proofs.lemmas.Bool.{cases_lt}
use Rattle.std.proofs.lemmas.List.{get_or_default}
use Rattle.state_sets.proofs.places.place_of.Goals as goal

up_to : (xs : List ℕ) (i x z : ℕ) → AllPairs (λ a b. a < b) xs → i < length xs → x ≡ get_or xs i x → x < z → (k d : ℕ) → k < i + 1 → get_or xs k d < z
up_to xs i x z rising within is below k d before = cases (cases_lt k i)
  where
    at : get_or xs i d ≡ x
    at = get_or_default xs i d x within ∙ sym is

    cases : (k < i) ⊎ (i ≤ k) → get_or xs k d < z
    cases (inl earlier) = let step : get_or xs k d < get_or xs i d = rising k i d earlier within in omega (arith, at)
    cases (inr later) = let same : k ≡ i = omega arith in let e : get_or xs k d ≡ get_or xs i d = ap (λ j. get_or xs j d) same in omega (arith, at)

from_on : (xs : List ℕ) (i x z : ℕ) → AllPairs (λ a b. a < b) xs → i < length xs → x ≡ get_or xs i x → z < x → (k d : ℕ) → i ≤ k → k < length xs → z < get_or xs k d
from_on xs i x z rising within is above k d after inside = cases (cases_lt i k)
  where
    at : get_or xs i d ≡ x
    at = get_or_default xs i d x within ∙ sym is

    cases : (i < k) ⊎ (k ≤ i) → z < get_or xs k d
    cases (inl later) = let step : get_or xs i d < get_or xs k d = rising i k d later inside in omega (arith, at)
    cases (inr earlier) = let same : k ≡ i = omega arith in let e : get_or xs k d ≡ get_or xs i d = ap (λ j. get_or xs j d) same in omega (arith, at)

pub loop-low-preserved-then-found-state-2 : goal.loop-low-preserved-then-found-state-2
loop-low-preserved-then-found-state-2 c =
    let within : c.loop-low.low + (c.loop-low.high - c.loop-low.low) / 2 < length c.args.states.now = omega (arith, c.loop-low.invariant.order, c.loop-low.invariant.within, c.loop-low-test.true) in
    record {
      order = omega (arith, c.loop-low-test.true);
      within = c.loop-low.invariant.within;
      before = up_to c.args.states.now (c.loop-low.low + (c.loop-low.high - c.loop-low.low) / 2) c.index-states-middle.result c.args.state c.requires within c.index-states-middle.is (omega (arith, c.found.view_is, c.state.view_is, c.if-found-state-2.true));
      after = c.loop-low.invariant.after;
    }

pub loop-low-preserved : goal.loop-low-preserved
loop-low-preserved c =
    let within : c.loop-low.low + (c.loop-low.high - c.loop-low.low) / 2 < length c.args.states.now = omega (arith, c.loop-low.invariant.order, c.loop-low.invariant.within, c.loop-low-test.true) in
    record {
      order = omega arith;
      within = omega (arith, within);
      before = c.loop-low.invariant.before;
      after = from_on c.args.states.now (c.loop-low.low + (c.loop-low.high - c.loop-low.low) / 2) c.index-states-middle.result c.args.state c.requires within c.index-states-middle.is (omega (arith, c.found.view_is, c.state.view_is, c.if-found-state.false, c.if-found-state-2.false));
    }
