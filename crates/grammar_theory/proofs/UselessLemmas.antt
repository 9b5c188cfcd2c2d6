-- The least useless name of a kind is one.
use Rattle.std.proofs.Common.{◌≡◌, ℕ, ◌<◌, inl, inr, arith}
use Rattle.std.proofs.lemmas.Bool.{cases_lt}
use Rattle.grammar_theory.specs.UselessNames.{OneUnproductiveLaw, OneUnreachableLaw, OneTooLargeLaw}

-- two least numbers without a property are one
pub same_least : (P : ℕ → Type 0) (n m : ℕ) → ¬ (P n) → ¬ (P m) → ((k : ℕ) → k < n → P k) → ((k : ℕ) → k < m → P k) → n ≡ m
same_least P n m not_n not_m below_n below_m =
    elim (cases_lt n m) [
      | inl less ↦ absurd (not_n (below_m n less))
      | inr more ↦ elim (cases_lt m n) [
        | inl less ↦ absurd (not_m (below_n m less))
        | inr same ↦ omega arith
      ]
    ]

pub one_unproductive : OneUnproductiveLaw
one_unproductive g n m one other = same_least _ n m one.unproductive other.unproductive one.least other.least

pub one_unreachable : OneUnreachableLaw
one_unreachable g n m one other = same_least _ n m one.unreachable other.unreachable one.least other.least

pub one_too_large : OneTooLargeLaw
one_too_large g n m one other = same_least _ n m (λ no. no one.large) (λ no. no other.large) one.least other.least
