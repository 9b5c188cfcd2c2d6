-- The members of a set of tokens are below 256.
use Rattle.std.proofs.Common.{◌≡◌, ℕ, ◌/◌, ◌%◌, ◌==◌, ◌<◌, ◌≤◌, inl, inr, true, false, List, length, sym, ap, ◌∙◌, arith}
use Rattle.std.specs.Int.{bit_at}
use Rattle.std.proofs.lemmas.Bool.{cases_lt, false≢true}
use Rattle.std.proofs.lemmas.List.{get_or_past}
use Rattle.std.proofs.lemmas.Nat.Bits.{bit_at-zero}
use Rattle.grammar_data.specs.TokenSet.{IsTokenSet, has_token}

pub past_words : (words : List ℕ) (a : ℕ) → length words ≡ 4 → 256 ≤ a → has_token words a ≡ false
past_words words a four past = ap (λ x. bit_at x (a % 64) == 1) (get_or_past words (a / 64) 0 (omega arith)) ∙ ap (λ x. x == 1) (bit_at-zero (a % 64))

pub token_below : (words : List ℕ) (a : ℕ) → IsTokenSet words → has_token words a ≡ true → a < 256
token_below words a h has = elim (cases_lt a 256) [
  | inl less ↦ less
  | inr past ↦ absurd (false≢true (sym (past_words words a h.four past) ∙ has))
]
