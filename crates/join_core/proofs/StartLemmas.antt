-- What is kept at the start.
use Rattle.std.proofs.Common.{◌≡◌, ℕ, zero, suc, ◌+◌, ◌<◌, ◌≤◌, List, [], ◌++◌, Bool, false, length, get_or, replicate, Option, None, refl, ap, ◌∙◌, arith}
use Rattle.std.proofs.lemmas.List.{get_or-replicate, length-replicate}
use Rattle.core_theory.specs.Runs.{IsStart}
use Rattle.core_theory.proofs.CoverLemmas.{start_law}
use Rattle.join_core.specs.declared.held.Held.{Held}
use Rattle.join_core.specs.declared.held.Held.TheVariants.{NoRange}
use Rattle.join_core.specs.declared.limits.TheConstants.{LEAVES}
use Rattle.join_core.specs.Ranges.{carried_end, waiting_end, range_at, ranges_of, kept_state, IsKept}

no_ranges : (end : Held → Option ℕ) → end NoRange ≡ None → (first count : ℕ) → ranges_of end first (replicate count NoRange) ≡ []
no_ranges end none first zero = refl
no_ranges end none first (suc count) = ap (λ o. range_at first o ++ ranges_of end (first + 1) (replicate count NoRange)) none ∙ no_ranges end none (first + 1) count

pub starts : (leaves : ℕ) (words : List Bool) (held : List Held) → words ≡ replicate leaves false → held ≡ replicate leaves NoRange → IsStart leaves (kept_state leaves 0 words held false)
starts leaves words held no_word nothing = record {
  count = refl;
  counter = refl;
  words = λ boundary from upto. ap (λ l. get_or l boundary false) no_word ∙ get_or-replicate leaves boundary false false upto;
  carried = ap (ranges_of carried_end 0) nothing ∙ no_ranges carried_end refl 0 leaves;
  waiting = ap (ranges_of waiting_end 0) nothing ∙ no_ranges waiting_end refl 0 leaves;
  done = refl;
}

pub kept_start : (leaves : ℕ) (words : List Bool) (held : List Held) → 0 < leaves → leaves ≤ LEAVES → words ≡ replicate leaves false → held ≡ replicate leaves NoRange → IsKept leaves 0 words held false
kept_start leaves words held some few no_word nothing = record {
  some = some;
  few = few;
  words_count = ap length no_word ∙ length-replicate leaves false;
  held_count = ap length nothing ∙ length-replicate leaves NoRange;
  covered = start_law leaves (kept_state leaves 0 words held false) (omega (arith, few)) (starts leaves words held no_word nothing);
}
