-- What is printed of a number of at most 9 digits.
use Rattle.std.proofs.Common.{◌≡◌, ℕ, ◌^◌, ◌<◌, ◌≤◌, true, List, length, get_or, refl, arith}
use Rattle.std.specs.Prelude.{All, nat_le}
use Rattle.std.specs.Fmt.{decimal}
use Rattle.std.proofs.lemmas.Bool.{le-leb, and_from}
use Rattle.std.proofs.lemmas.Fmt.{decimal_is_IsNumeral, length-decimal-le, digits_value-decimal, digits_decimal}
use Rattle.std.proofs.lemmas.Str.Parse.{WeighsDigits, numerals_by_weight, tells_by_index}
use Rattle.std.proofs.lemmas.List.Elements.{All-from_get_or}
use Rattle.lexeme_theory.specs.SheetBytes.{is_digit}
use Rattle.lexeme_theory.specs.Decimals.{decimal_value}

abbrev pub AreDigits : List ℕ → Type 0
AreDigits digits = All (λ byte. is_digit byte ≡ true) digits

weighs : WeighsDigits decimal_value
weighs = record { empty = refl; more = λ c cs h. refl }

digit : (byte : ℕ) → 48 ≤ byte → byte ≤ 57 → is_digit byte ≡ true
digit byte low high = and_from (nat_le 48 byte) (nat_le byte 57) (le-leb 48 byte low) (le-leb byte 57 high)

-- digits, at least one and at most 9, that say the number
pub record IsNumber (n : ℕ) (digits : List ℕ) : Type 0 where
  pub all : AreDigits digits
  pub some : 0 < length digits
  pub few : length digits ≤ 9
  pub says : decimal_value digits ≡ n

pub printed_number : (n : ℕ) → n < 1_000_000_000 → IsNumber n (decimal n)
printed_number n small =
    let numeral = decimal_is_IsNumeral n (omega (arith, small)) in
    let power : 10 ^ 9 ≡ 1_000_000_000 = refl in
    let own = numerals_by_weight _ tells_by_index decimal_value weighs in
    let digits = digits_decimal own n (omega (arith, small)) in
    record {
      all = All-from_get_or (λ byte. is_digit byte ≡ true) (decimal n) 0 (λ i within. let h = digits i within in digit (get_or (decimal n) i 0) h.0 h.1);
      some = numeral.0.0;
      few = length-decimal-le 9 n (omega arith) (omega (arith, power, small)) (omega (arith, small));
      says = digits_value-decimal own n (omega (arith, small));
    }
