-- The maximal runs of a set.
use Rattle.std.proofs.Common.{◌≡◌, ℕ, suc, ◌+◌, ◌-◌, ◌<◌, ◌↔◌, true, cond, not, List, sym, ap, ◌∙◌, ⊎_elim, arith}
use Rattle.std.specs.Prelude.{◌==◌}
use Rattle.std.proofs.lemmas.Bool.{cases_Bool, and_from, and_parts, ne_eqb, not_from_false, not-true, false≢true}
use Rattle.pattern_data.specs.Bytes.{IsMember}
use Rattle.pattern_data.specs.Sets.{has_bit}
use Rattle.pattern_data.specs.Texts.{has_byte, run_before, runs_from}
use Rattle.pattern_data.proofs.SetLemmas.{member_from_bit, bit_from_member}

pub has_byte-member : (words : List ℕ) (byte : ℕ) → (has_byte words byte ≡ true) ↔ IsMember words byte
has_byte-member words byte = (
  λ e. let parts = and_parts (not (byte == 10)) (has_bit words byte) e in
      member_from_bit words byte (λ is. false≢true (sym (not-true (byte == 10) parts.0) ∙ eqb-is byte is)) parts.1,
  λ member. and_from (not (byte == 10)) (has_bit words byte) (not_from_false (byte == 10) (ne_eqb byte 10 member.0)) (bit_from_member words byte member),
)
  where
    eqb-is : (b : ℕ) → b ≡ 10 → (b == 10) ≡ true
    eqb-is b is = ap (λ n. n == 10) is

-- ---- one byte more
pub runs_from-more : (words : List ℕ) (byte count : ℕ) → runs_from words byte (count + 1) ≡ cond (has_byte words byte) (run_before byte (runs_from words (byte + 1) count)) (runs_from words (byte + 1) count)
unfolding runs_from
runs_from-more words byte count = let e : count + 1 ≡ suc count = omega arith in ap (runs_from words byte) e

pub runs_taken : (words : List ℕ) (taken byte : ℕ) → taken < 256 → byte ≡ 255 - taken → runs_from words (256 - (taken + 1)) (taken + 1) ≡ cond (has_byte words byte) (run_before byte (runs_from words (256 - taken) taken)) (runs_from words (256 - taken) taken)
runs_taken words taken byte below is =
    let start : 256 - (taken + 1) ≡ byte = omega arith in
    let next : byte + 1 ≡ 256 - taken = omega arith in
    ap (λ b. runs_from words b (taken + 1)) start ∙ runs_from-more words byte taken
    ∙ ap (λ b. cond (has_byte words byte) (run_before byte (runs_from words b taken)) (runs_from words b taken)) next

pub runs_taken_in : (words : List ℕ) (taken byte : ℕ) → taken < 256 → byte ≡ 255 - taken → IsMember words byte → runs_from words (256 - (taken + 1)) (taken + 1) ≡ run_before byte (runs_from words (256 - taken) taken)
runs_taken_in words taken byte below is member =
    runs_taken words taken byte below is ∙ ap (λ b. cond b (run_before byte (runs_from words (256 - taken) taken)) (runs_from words (256 - taken) taken)) ((has_byte-member words byte).1 member)

pub runs_taken_out : (words : List ℕ) (taken byte : ℕ) → taken < 256 → byte ≡ 255 - taken → (IsMember words byte → ⊥) → runs_from words (256 - (taken + 1)) (taken + 1) ≡ runs_from words (256 - taken) taken
runs_taken_out words taken byte below is none =
    ⊎_elim
    (λ has. absurd (none ((has_byte-member words byte).0 has)))
    (λ hasnt. runs_taken words taken byte below is ∙ ap (λ b. cond b (run_before byte (runs_from words (256 - taken) taken)) (runs_from words (256 - taken) taken)) hasnt)
    (cases_Bool (has_byte words byte))
