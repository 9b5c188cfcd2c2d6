use Rattle.std.proofs.Common.{◌<◌, ◌≤◌, ◌↔◌, arith, [], IsTrue}
use Rattle.std.specs.Prelude.{All}
use Rattle.std.proofs.lemmas.Bool.{false≢true}
use Rattle.std.proofs.lemmas.Result.{IfOk-weaker}
use Rattle.pattern_data.specs.Language.{Matches}
use Rattle.position_theory.specs.Positions.{count_all}
use Rattle.scanning_theory.specs.declared.limits.TheConstants.{POSITIONS}
use Rattle.scanning_theory.specs.Scannable.{IsScannable}
use Rattle.token_patterns.proofs.ConditionLemmas.{within_limits, too_many_positions}
use Rattle.token_patterns.proofs.condition.can_build.Goals as goal

pub returns-then-count_together-gt-POSITIONS : goal.returns-then-count_together-gt-POSITIONS
returns-then-count_together-gt-POSITIONS c =
    let many : POSITIONS < count_all c.args.patterns.now = omega (arith, c.count_together.ensures, c.if-count_together-gt-POSITIONS.true) in
    (λ h. absurd (false≢true h), λ can. absurd (too_many_positions c.args.patterns.now many can))

pub returns : goal.returns
returns c =
    let patterns = c.args.patterns.now in
    let small : count_all patterns ≤ POSITIONS = omega (arith, c.count_together.ensures, c.if-count_together-gt-POSITIONS.false) in
    IfOk-weaker c.none_empty.result (λ none. IsTrue none ↔ All (λ pattern. ¬ (Matches pattern [])) patterns) (λ can. IsTrue can ↔ IsScannable patterns)
    (λ none h. within_limits patterns (IsTrue none) c.if-patterns-gt-PATTERNS.false small h) c.none_empty.ensures
