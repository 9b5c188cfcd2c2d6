use Rattle.std.proofs.Common.{refl, sym, ◌∙◌, arith}
use Rattle.std.proofs.lemmas.Bool.{false≢true}
use Rattle.lr_base.proofs.GrammarLemmas.{unmarked}
use Rattle.lr_base.proofs.grammar.left_sides.Goals as goal

pub loop-rule-init : goal.loop-rule-init
loop-rule-init c = record {
  len = refl;
  only = λ n marked. absurd (false≢true (sym (unmarked 500 n) ∙ marked));
  all = λ k d below. absurd (omega arith);
}
