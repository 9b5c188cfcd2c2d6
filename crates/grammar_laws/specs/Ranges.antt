-- What holds of each grammar.
use Rattle.grammar_data.specs.Grammar.{Grammar}
use Rattle.lr_base.specs.IsGrammar.{IsGrammar}
use Rattle.grammar_theory.specs.Rules.{IsInRange}

-- the names and tokens of a grammar's rules are below its numbers of them, and so is its start
abbrev pub InRangeLaw : Type 0
InRangeLaw = (g : Grammar) → IsGrammar g → IsInRange g
