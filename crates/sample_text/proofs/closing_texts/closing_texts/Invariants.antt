use Rattle.std.proofs.Common.{◌≡◌, length}
use Rattle.scanning_theory.specs.Scan.{Scanning}
use Rattle.sample_text.specs.ClosingTexts.{AreLinesOf, HaveClosingTexts}
use Rattle.sample_text.proofs.closing_texts.closing_texts.Given as goal

abbrev pub invariant-loop-name : goal.invariant-loop-name
invariant-loop-name l = record {
  size : length l.texts.items ≡ l.name;
  texts : (scanning : Scanning) → AreLinesOf scanning l.found → HaveClosingTexts scanning l.chooser.grammar.now l.texts.items;
}
