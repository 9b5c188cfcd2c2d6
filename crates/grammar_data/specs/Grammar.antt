-- What a contract sees of a grammar: its four parts.
use Rattle.std.specs.Prelude.{ℕ, List}
use Rattle.grammar_data.specs.declared.rule.Sym.{Sym}

-- a rule: its left side and its right side
abbrev pub Rule : Type 0
Rule = ℕ × List Sym

-- tokens and names are numbered from 0, so that two numbers tell them all; a rule's number is its place in the list
pub record Grammar : Type 0 where
  pub tokens : ℕ
  pub names : ℕ
  pub rules : List Rule
  pub start : ℕ
