-- Digits one after another.
use Rattle.std.proofs.Common.{◌≡◌, ℕ, suc, ◌+◌, ◌-◌, ◌*◌, ◌^◌, ◌<◌, ◌≤◌, Bool, true, false, List, [], ◌∷◌, ◌++◌, length, get_or, take, refl, ap, ◌∙◌, arith}
use Rattle.std.specs.Prelude.{nat_le, ◌&&◌}
use Rattle.std.proofs.lemmas.Bool.{false≢true, leb-true}
use Rattle.lexeme_theory.specs.SheetBytes.{is_digit}
use Rattle.std.proofs.lemmas.List.{length_push, take_more}
use Rattle.std.proofs.Math.Nat.{pow-succ', pow-le-pow_right, mul_left_comm}
use Rattle.lexeme_theory.specs.Decimals.{decimal_value}

ten_more : (k : ℕ) → 10 ^ (k + 1) ≡ 10 * 10 ^ k
ten_more k = let e : k + 1 ≡ suc k = omega arith in ap (λ n. 10 ^ n) e ∙ pow-succ' 10 k

shifted : (d p q v w t : ℕ) → q ≡ 10 * p → w ≡ v * 10 + t → d * q + w ≡ (d * p + v) * 10 + t
shifted d p q v w t e f = let more : d * q ≡ 10 * (d * p) = ap (λ n. d * n) e ∙ mul_left_comm d 10 p in omega (arith, more, f)

pub value_push : (digits : List ℕ) (digit : ℕ) → decimal_value (digits ++ digit ∷ []) ≡ decimal_value digits * 10 + (digit - 48)
value_push [] digit = let one : 10 ^ 0 ≡ 1 = refl in omega arith
value_push (first ∷ digits) digit =
    let size : 10 ^ length (digits ++ digit ∷ []) ≡ 10 * 10 ^ length digits = ap (λ n. 10 ^ n) (length_push digits digit) ∙ ten_more (length digits) in
    shifted (first - 48) (10 ^ length digits) (10 ^ length (digits ++ digit ∷ [])) (decimal_value digits) (decimal_value (digits ++ digit ∷ [])) (digit - 48) size (value_push digits digit)

pub value_more : (digits : List ℕ) (i value digit next : ℕ) → i < length digits → digit ≡ get_or digits i 0 → value ≡ decimal_value (take i digits) → next ≡ value * 10 + (digit - 48) → next ≡ decimal_value (take (i + 1) digits)
value_more digits i value digit next inside is so_far e =
    let there : decimal_value (take (i + 1) digits) ≡ decimal_value (take i digits) * 10 + (get_or digits i 0 - 48) = ap decimal_value (take_more digits i 0 inside) ∙ value_push (take i digits) (get_or digits i 0) in
    let here : digit - 48 ≡ get_or digits i 0 - 48 = ap (λ n. n - 48) is in
    omega (arith, there, here, so_far, e)

pub small_more : (i value digit next : ℕ) → value < 10 ^ i → digit ≤ 9 → next ≡ value * 10 + digit → next < 10 ^ (i + 1)
small_more i value digit next small below e = let p = ten_more i in omega (arith, p, small, e)

and_right : (a b : Bool) → (a && b) ≡ true → b ≡ true
and_right true b e = e
and_right false b e = absurd (false≢true e)

pub digit_small : (byte : ℕ) → is_digit byte ≡ true → byte ≤ 57
digit_small byte h = leb-true byte 57 (and_right (nat_le 48 byte) (nat_le byte 57) h)

-- a number of few digits fits its type
pub small_fits : (i : ℕ) → i ≤ 8 → 10 ^ i ≤ 100_000_000
small_fits i h = let e : 10 ^ 8 ≡ 100_000_000 = refl in let p : 10 ^ i ≤ 10 ^ 8 = pow-le-pow_right (omega arith) h in omega (arith, e, p)
