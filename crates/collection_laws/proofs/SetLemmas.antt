-- It isn't refuted that a fact of the tokens has the set of the tokens with it.
use Rattle.std.proofs.Common.{◌≡◌, ℕ, zero, suc, ◌/◌, ◌==◌, ◌||◌, ◌<◌, ◌≤◌, ◌↔◌, ◌⊎◌, inl, inr, ⊎_elim, true, IsTrue, List, set, sym, subst, ◌∙◌, arith}
use Rattle.std.proofs.lemmas.Bool.{or_left, or_right, or_cases, eqb-true, eq-eqb, false≢true, cases_lt}
use Rattle.grammar_data.specs.TokenSet.{IsTokenSet, has_token}
use Rattle.grammar_data.proofs.WordLemmas.{with_number}
use Rattle.grammar_data.proofs.TokenSetLemmas.{IsTokenSet-set, with_token-lt, insert_members, no_words, no_token, IsTokenSet-no_words}
use Rattle.state_laws.proofs.RefutedLemmas.{NotRefuted, decided}

-- the set of the tokens below the bound that have the fact
pub record IsSetBelow (P : ℕ → Type 0) (bound : ℕ) (words : List ℕ) : Type 0 where
  pub set : IsTokenSet words
  pub have : (a : ℕ) → IsTrue (has_token words a) ↔ (P a × (a < bound))

module _ (P : ℕ → Type 0) where
  set_begin : IsSetBelow P 0 no_words
  set_begin = record {
    set = IsTokenSet-no_words;
    have = λ a. (λ h. absurd (false≢true (sym (no_token a) ∙ h)), λ below. let less = below.1 in absurd (omega arith));
  }

  set_more : (n : ℕ) (words : List ℕ) → n < 256 → IsSetBelow P n words → P n → IsSetBelow P (suc n) (set words (n / 64) (with_number words n))
  set_more n words small is here = record {
    set = IsTokenSet-set words (n / 64) (with_number words n) is.set (with_token-lt words n is.set small);
    have = λ a. (λ h. there a (or_cases _ _ (sym (insert_members words n is.set small a) ∙ h)), λ below. insert_members words n is.set small a ∙ back a below.0 below.1 (cases_lt a n));
  }
    where
      there : (a : ℕ) → ((a == n) ≡ true) ⊎ (has_token words a ≡ true) → P a × (a < suc n)
      there a (inl h) = let same = eqb-true a n h in (subst P (sym same) here, omega arith)
      there a (inr h) = let old = (is.have a).0 h in let less = old.1 in (old.0, omega arith)

      back : (a : ℕ) → P a → a < suc n → (a < n) ⊎ (n ≤ a) → ((a == n) || has_token words a) ≡ true
      back a p below (inl less) = or_right (a == n) (has_token words a) ((is.have a).1 (p, less))
      back a p below (inr le) = or_left (a == n) (has_token words a) (eq-eqb a n (omega arith))

  set_same : (n : ℕ) (words : List ℕ) → IsSetBelow P n words → (P n → ⊥) → IsSetBelow P (suc n) words
  set_same n words is not = record {
    set = is.set;
    have = λ a. (λ h. let old = (is.have a).0 h in let less = old.1 in (old.0, omega arith), λ below. (is.have a).1 (below.0, back a below.0 below.1));
  }
    where
      back : (a : ℕ) → P a → a < suc n → a < n
      back a p below = ⊎_elim (λ less. less) (λ le. let same : a ≡ n = omega arith in absurd (not (subst P same p))) (cases_lt a n)

  pub set_found : (n : ℕ) → n ≤ 256 → NotRefuted ((words : List ℕ) × IsSetBelow P n words)
  set_found zero small refuted = refuted (no_words, set_begin)
  set_found (suc n) small refuted =
      set_found n (omega arith) (λ found. decided (P n) (λ d. ⊎_elim
      (λ here. refuted (set found.0 (n / 64) (with_number found.0 n), set_more n found.0 (omega arith) found.1 here))
      (λ not. refuted (found.0, set_same n found.0 found.1 not))
      d))
