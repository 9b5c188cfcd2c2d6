use Rattle.std.proofs.Common.{ℕ, ◌+◌, List, refl, sym, subst, ap, ◌∙◌}
use Rattle.lr_machine.proofs.ExpectedLemmas.{AreExpectedBelow, expected_more, expected_same}
use Rattle.lr_machine.proofs.tables.Tables.expected.Goals as goal
use Rattle.lr_machine.proofs.tables.Tables.expected.Goals.{then-expects+in_ok-push, else-expects}

pub loop-number-preserved : goal.loop-number-preserved
loop-number-preserved c =
    let t = c.args.self.now in
    let q = c.args.state in
    let k = c.loop-number.number in
    let old = c.loop-number.tokens in
    elim c.if-expects.branch [
      | then-expects+in_ok-push w ↦
          subst (λ (l : List ℕ). AreExpectedBelow t q (k + 1) l) (sym (ap (λ v. v.items) w.tokens-is ∙ w.in_ok-push.ensures.items))
          (expected_more t q k old.items c.loop-number.invariant (w.if-expects.ensures.0 refl))
      | else-expects w ↦
          subst (λ (l : List ℕ). AreExpectedBelow t q (k + 1) l) (sym (ap (λ v. v.items) w.tokens-is))
          (expected_same t q k old.items c.loop-number.invariant (λ acts. (let wrong = w.if-expects.ensures.1 acts in cc)))
    ]
