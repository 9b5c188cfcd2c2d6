use Rattle.std.proofs.Common.{◌≡◌, ℕ, ◌↔◌, ◌<◌, ◌+◌, Contains, sym, subst, arith}
use Rattle.first_sets.proofs.RelationLemmas.{numbers_more}
use Rattle.first_sets.proofs.relation.numbers_below.Goals as goal

pub loop-number-preserved : goal.loop-number-preserved
loop-number-preserved c = record {
  members = subst (λ l. (n : ℕ) → Contains l n ↔ n < c.loop-number.number + 1) (sym c.in_ok-push.ensures.items) (numbers_more c.loop-number.numbers.items c.loop-number.number c.loop-number.invariant.members);
  count = omega (arith, c.in_ok-push.ensures.len, c.loop-number.invariant.count);
}

pub returns-clause-members : goal.returns-clause-members
returns-clause-members c =
    let e : c.loop-number.number ≡ c.args.count = omega arith in
    subst (λ k. (n : ℕ) → Contains c.loop-number.numbers.items n ↔ n < k) e c.loop-number.invariant.members
