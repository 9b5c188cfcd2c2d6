use Rattle.std.proofs.Common.{◌≡◌, length}
use Rattle.sample_text.specs.Wording.{AreUnknown}
use Rattle.sample_text.proofs.sampling.no_words.Given as goal

abbrev pub invariant-loop : goal.invariant-loop
invariant-loop l = record {
  size : length l.found.items ≡ l.counter;
  none : AreUnknown l.found.items;
}
