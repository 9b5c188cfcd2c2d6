use Rattle.std.proofs.Common.{◌≡◌, ℕ, length}
use Rattle.std.specs.Prelude.{slice_get, Some}
use Rattle.std.specs.Global.{Vec}
use Rattle.position_sets.specs.Sets.{IsSetOfWords}
use Rattle.token_patterns.specs.Ahead.{IsMaskOf}
use Rattle.token_patterns.proofs.masking.masks.Given as goal

abbrev pub invariant-loop-byte : goal.invariant-loop-byte
invariant-loop-byte l = record {
  count : length l.masks.items ≡ l.byte;
  masks : (byte : ℕ) (mask : Vec ℕ) → slice_get l.masks.items byte ≡ Some mask → IsMaskOf l.positions byte mask.items;
  sets : (byte : ℕ) (mask : Vec ℕ) → slice_get l.masks.items byte ≡ Some mask → IsSetOfWords l.size mask.items;
}
