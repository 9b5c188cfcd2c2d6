use Rattle.std.proofs.Common.{◌≡◌, ℕ, ◌<◌, true, false, List, length, Contains, get_or}
use Rattle.grammar_data.specs.Grammar.{Rule}
use Rattle.grammar_data.specs.declared.rule.Sym.{Sym}
use Rattle.lr_base.proofs.grammar.left_sides.Given as goal

abbrev pub invariant-loop-rule : goal.invariant-loop-rule
invariant-loop-rule l = record {
  len : length l.marked ≡ 500;
  only : (n : ℕ) → get_or l.marked n false ≡ true → (right : List Sym) × Contains l.rules (n, right);
  all : (k : ℕ) (d : Rule) → k < l.rule-index → get_or l.marked (get_or l.rules k d).0 false ≡ true;
}
