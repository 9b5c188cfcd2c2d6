use Rattle.std.proofs.Common.{◌∷◌, [], All, reverse}
use Rattle.grammar_data.specs.declared.rule.Sym.TheVariants.{Name}
use Rattle.lr_base.specs.IsGrammar.{IsSymbolOf}
use Rattle.scanning_theory.specs.Scan.{Scanning}
use Rattle.sample_text.specs.ClosingTexts.{AreClosingTokens, AreLinesOf}
use Rattle.sample_text.proofs.SamplingLemmas.{IsMaking}
use Rattle.sample_text.proofs.closing_texts.closing_text.Given as goal

abbrev pub invariant-loop : goal.invariant-loop
invariant-loop l = record {
  symbols : All (IsSymbolOf l.chooser.grammar.now.tokens l.chooser.grammar.now.names) l.todo.items;
  making : (scanning : Scanning) → AreLinesOf scanning l.found → IsMaking scanning l.chooser.grammar.now 0 0 (AreClosingTokens l.chooser.grammar.now (Name l.fn.name ∷ [])) 0 (reverse l.todo.items) l.text.items;
}
