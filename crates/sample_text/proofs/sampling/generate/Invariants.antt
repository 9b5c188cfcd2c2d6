use Rattle.std.proofs.Common.{◌≡◌, ◌≤◌, All, length, reverse}
use Rattle.lr_base.specs.declared.limits.TheConstants.{TEXT_BYTES}
use Rattle.lr_base.specs.IsGrammar.{IsSymbolOf}
use Rattle.scanning_theory.specs.Scan.{Scanning}
use Rattle.sample_theory.specs.Choices.{number_at}
use Rattle.sample_text.specs.Choosing.{CanChoose}
use Rattle.sample_text.specs.ClosingTexts.{HaveClosingTexts}
use Rattle.sample_text.specs.Wording.{AreKnown, IsScannedBy}
use Rattle.sample_text.proofs.SamplingLemmas.{IsSampling}
use Rattle.sample_text.proofs.sampling.generate.Given as goal

abbrev pub invariant-loop : goal.invariant-loop
invariant-loop l = record {
  grammar : l.chooser.grammar.now ≡ l.grammar;
  size : l.chooser.size ≡ l.fn.size;
  can : CanChoose l.grammar l.chooser.lists.items l.chooser.closings.items;
  count : length l.found.items ≡ l.grammar.tokens;
  known : AreKnown l.scanner l.means l.found.items;
  texts : (scanning : Scanning) → IsScannedBy l.scanner l.means scanning → HaveClosingTexts scanning l.grammar l.texts.items;
  number : l.draws.number ≡ number_at l.fn.from l.draws.drawn;
  symbols : All (IsSymbolOf l.grammar.tokens l.grammar.names) l.todo.items;
  fits : length l.text.items ≤ TEXT_BYTES;
  sampling : (scanning : Scanning) → IsScannedBy l.scanner l.means scanning → IsSampling scanning l.grammar l.fn.from l.fn.size l.draws.drawn (reverse l.todo.items) l.text.items;
}
