use Rattle.std.proofs.Common.{◌≡◌, ℕ, length, slice_get, Some}
use Rattle.item_sets.specs.declared.spot.Spot.{Spot}
use Rattle.item_sets.specs.Spots.{IsSpotAt}
use Rattle.item_sets.proofs.spot.spots_of.Given as goal

abbrev pub invariant-loop-dot : goal.invariant-loop-dot
invariant-loop-dot l = record {
  count : length l.spots.items ≡ l.dot;
  each : (dot : ℕ) (spot : Spot) → slice_get l.spots.items dot ≡ Some spot → IsSpotAt l.fn.grammar l.right dot spot;
}
