use Rattle.std.proofs.Common.{◌≡◌, true, false}
use Rattle.sample_text.specs.Closings.{AllAreBelow, HasHeight, IsRound}
use Rattle.sample_text.proofs.closing.close_round.Given as goal

abbrev pub invariant-loop-rule : goal.invariant-loop-rule
invariant-loop-rule l = record {
  round : IsRound l.grammar l.height l.rule l.closings.items;
  below : l.more ≡ false → AllAreBelow l.closings.items l.height;
  some : l.more ≡ true → HasHeight l.closings.items l.height;
}
