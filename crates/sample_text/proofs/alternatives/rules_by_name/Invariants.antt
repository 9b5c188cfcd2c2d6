use Rattle.std.proofs.Common.{◌≡◌, ℕ, [], length}
use Rattle.std.specs.Prelude.{slice_get, Some}
use Rattle.std.specs.Global.{Vec}
use Rattle.sample_text.proofs.AlternativeLemmas.{rules_before}
use Rattle.sample_text.proofs.alternatives.rules_by_name.Given as goal

abbrev pub invariant-loop : goal.invariant-loop
invariant-loop l = record {
  size : length l.lists.items ≡ l.counter;
  empty : (n : ℕ) (list : Vec ℕ) → slice_get l.lists.items n ≡ Some list → list.items ≡ [];
}

abbrev pub invariant-loop-rule : goal.invariant-loop-rule
invariant-loop-rule l = record {
  size : length l.lists.items ≡ l.grammar.names;
  lists : (n : ℕ) (list : Vec ℕ) → slice_get l.lists.items n ≡ Some list → list.items ≡ rules_before l.grammar.rules n l.rule;
}
