-- An outline with its numbers.
use Rattle.std.specs.Prelude.{◌≡◌, ◌+◌, length}
use Rattle.outline_data.specs.Parts.{OutlineParts}
use Rattle.outline_theory.specs.Words.{token_words, starts}
use Rattle.outline_theory.specs.Numbering.{unnamed_literals, grammar_names, rules_of, start_by}
use Rattle.outline_numbers.specs.declared.numbering.Numbered.{Numbered}

-- its literals without a name, its names and its grammar
pub record IsNumbered (o : OutlineParts) (numbered : Numbered) : Type 0 where
  pub literals : numbered.literals.items ≡ unnamed_literals o
  pub names : numbered.names.items ≡ grammar_names o
  pub grammar : numbered.grammar ≡ record {
    tokens = length (token_words o) + length (unnamed_literals o);
    names = length (grammar_names o);
    rules = rules_of o;
    start = start_by (grammar_names o) (starts o);
  }
