use Rattle.sample_text.specs.Closings.{AllAreBelow, IsRound}
use Rattle.sample_text.proofs.closing.closing_rules.Given as goal

abbrev pub invariant-loop-height : goal.invariant-loop-height
invariant-loop-height l = record {
  round : IsRound l.grammar l.height 0 l.closings.items;
  below : AllAreBelow l.closings.items l.height;
}
