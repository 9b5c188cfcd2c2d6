use Rattle.std.proofs.Common.{ℕ, ◌<◌, [], get_or}
use Rattle.pattern_data.specs.declared.pattern.Pattern.{Pattern}
use Rattle.pattern_data.specs.Language.{Matches}
use Rattle.token_patterns.proofs.condition.none_empty.Given as goal

abbrev pub invariant-loop-pattern : goal.invariant-loop-pattern
invariant-loop-pattern l = (k : ℕ) (d : Pattern) → k < l.pattern-index → Matches (get_or l.patterns k d) [] → ⊥
