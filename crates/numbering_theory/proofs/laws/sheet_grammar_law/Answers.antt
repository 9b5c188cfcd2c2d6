use Rattle.numbering_theory.proofs.SheetGrammar.{sheet_grammar}
use Rattle.numbering_theory.proofs.laws.sheet_grammar_law.Goals as goal

pub returns : goal.returns
returns c = sheet_grammar
