use Rattle.std.proofs.Common.{ℕ, ◌-◌, ◌<◌, ◌≤◌, length, get_or}
use Rattle.state_sets.proofs.places.place_of.Given as goal

abbrev pub invariant-loop-low : goal.invariant-loop-low
invariant-loop-low l = record {
  order : l.low ≤ l.high;
  within : l.high ≤ length l.states;
  before : (k d : ℕ) → k < l.low → get_or l.states k d < l.fn.state;
  after : (k d : ℕ) → l.high ≤ k → k < length l.states → l.fn.state < get_or l.states k d;
}

abbrev pub decreases-loop-low : goal.decreases-loop-low
decreases-loop-low l = l.high - l.low
