use Rattle.std.proofs.Common.{ℕ, ◌↔◌, ◌<◌}
use Rattle.position_sets.specs.Sets.{Has, IsSetOfWords}
use Rattle.token_patterns.specs.Ahead.{ReadsAt}
use Rattle.token_patterns.proofs.masking.mask_of.Given as goal

abbrev pub invariant-loop-place : goal.invariant-loop-place
invariant-loop-place l = record {
  mask : (q : ℕ) → Has l.mask.items q ↔ ((q < l.place) × ReadsAt l.positions l.byte q);
  set : IsSetOfWords l.size l.mask.items;
}
