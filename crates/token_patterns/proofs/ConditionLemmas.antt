-- When a scanner can be built of patterns.
use Rattle.std.proofs.Common.{◌≡◌, ℕ, zero, suc, ◌<◌, ◌≤◌, ◌↔◌, List, [], ◌∷◌, length, get_or, ap, arith}
use Rattle.std.specs.Prelude.{All}
use Rattle.pattern_data.specs.declared.pattern.Pattern.{Pattern}
use Rattle.pattern_data.specs.Language.{Matches, positions_of}
use Rattle.position_theory.specs.Positions.{count_all}
use Rattle.position_theory.proofs.LayerLemmas.{sum_counts}
use Rattle.scanning_theory.specs.declared.limits.TheConstants.{PATTERNS, POSITIONS}
use Rattle.scanning_theory.specs.Scannable.{IsScannable}

pub one_count : (ps : List Pattern) (k : ℕ) (p : Pattern) → k < length ps → p ≡ get_or ps k p → positions_of p ≤ count_all ps
one_count [] k p inside is = absurd (omega arith)
one_count (x ∷ ps) zero p inside is = let same : positions_of p ≡ positions_of x = ap positions_of is in omega (arith, same)
one_count (x ∷ ps) (suc k) p inside is = let rest = one_count ps k p (omega arith) is in omega (arith, rest)

-- within the limits it depends on the empty string alone
pub within_limits : (ps : List Pattern) (can : Type 0) → length ps ≤ PATTERNS → count_all ps ≤ POSITIONS → (can ↔ All (λ pattern. ¬ (Matches pattern [])) ps) → can ↔ IsScannable ps
within_limits ps can few small none = (
  λ h. record { count = few; positions = let same = sum_counts ps in omega (arith, same, small); not_empty = none.0 h },
  λ h. none.1 h.not_empty,
)

pub too_many_positions : (ps : List Pattern) → POSITIONS < count_all ps → IsScannable ps → ⊥
too_many_positions ps many h = let same = sum_counts ps in let small = h.positions in omega (arith, same, small, many)
