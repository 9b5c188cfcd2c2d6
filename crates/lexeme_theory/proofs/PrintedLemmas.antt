-- What is printed between quotes stands for the bytes that were printed.
use Rattle.std.proofs.Common.{◌≡◌, ℕ, ◌+◌, ◌*◌, ◌/◌, ◌%◌, ◌<◌, ◌⊎◌, Bool, true, false, cond, List, [], ◌∷◌, ◌++◌, refl, sym, ap, subst, ◌∙◌, inl, inr, ⊎_elim, arith}
use Rattle.std.specs.Prelude.{◌==◌, ◌&&◌, ◌||◌, nat_le, None, Some, All}
use Rattle.std.specs.List.{flat_map}
use Rattle.std.proofs.lemmas.Bool.{false≢true, eqb-true}
use Rattle.std.proofs.lemmas.Bool.Decides.{nat_tests}
use Rattle.std.proofs.lemmas.List.Elements.{All-head, All-tail}
use Rattle.std.proofs.Math.Nat.{div-add-mod}
use Rattle.sheet_theory.specs.Names.{quote, double_quote, backslash, hex_digit, escaped_byte}
use Rattle.lexeme_theory.specs.Escapes.{Front, is_hex_digit, hex_value, front_by_digits, front_by_escape, front_of, Spells}
use Rattle.lexeme_theory.specs.Escapes.Spells.{nothing, byte_and}

digit_is_hex : (n : ℕ) → n < 16 → is_hex_digit (hex_digit n) ≡ true
digit_is_hex n h = grind (arith, nat_tests)

digit_says : (n : ℕ) → n < 16 → hex_value (hex_digit n) ≡ n
digit_says n h = grind (arith, nat_tests)

-- the front of what is printed of a byte stands for it
abbrev IsPrinted : ℕ → List ℕ → Type 0
IsPrinted byte text = (rest : List ℕ) → front_of (text ++ rest) ≡ Some (byte, rest)

or_cases : (a b : Bool) → (a || b) ≡ true → (a ≡ true) ⊎ (b ≡ true)
or_cases true b e = inl refl
or_cases false b e = inr e

or_none : (a b : Bool) → (a || b) ≡ false → b ≡ false
or_none true b e = absurd (false≢true (sym e))
or_none false b e = e

both : (a b : Bool) → a ≡ true → b ≡ true → (a && b) ≡ true
both true b p q = q
both false b p q = absurd (false≢true p)

is_sign : (sign byte : ℕ) → byte ≡ sign → IsPrinted sign (backslash ∷ sign ∷ []) → IsPrinted byte (backslash ∷ byte ∷ [])
is_sign sign byte e known = subst (λ b. IsPrinted b (backslash ∷ b ∷ [])) (sym e) known

signs : (closing byte : ℕ) → (closing ≡ quote) ⊎ (closing ≡ double_quote) → ((byte == closing) || (byte == backslash)) ≡ true → IsPrinted byte (backslash ∷ byte ∷ [])
signs closing byte is e =
    ⊎_elim
    (λ closes. ⊎_elim
    (λ single. is_sign 39 byte (eqb-true byte closing closes ∙ single) (λ rest. refl))
    (λ double. is_sign 34 byte (eqb-true byte closing closes ∙ double) (λ rest. refl))
    is)
    (λ takes. is_sign 92 byte (eqb-true byte backslash takes) (λ rest. refl))
    (or_cases (byte == closing) (byte == backslash) e)

by_digits : (high low byte : ℕ) (rest : List ℕ) → high < 16 → low < 16 → 16 * high + low ≡ byte → front_by_digits (hex_digit high ∷ hex_digit low ∷ rest) ≡ Some (byte, rest)
by_digits high low byte rest h l e =
    let found : Front = (16 * hex_value (hex_digit high) + hex_value (hex_digit low), rest) in
    let value : 16 * hex_value (hex_digit high) + hex_value (hex_digit low) ≡ byte = ap (λ n. 16 * n + hex_value (hex_digit low)) (digit_says high h) ∙ ap (λ n. 16 * high + n) (digit_says low l) ∙ e in
    ap (λ b. cond b (Some found) None) (both _ _ (digit_is_hex high h) (digit_is_hex low l)) ∙ ap (λ n. Some (n, rest)) value

by_cond : (P : List ℕ → Type 0) (b : Bool) (one other : List ℕ) → (b ≡ true → P one) → (b ≡ false → P other) → P (cond b one other)
by_cond P true one other first second = first refl
by_cond P false one other first second = second refl

plain : (byte : ℕ) → (byte == backslash) ≡ false → IsPrinted byte (byte ∷ [])
plain byte e rest = ap (λ b. cond b (front_by_escape rest) (Some (byte, rest))) e

in_digits : (byte : ℕ) → byte < 256 → IsPrinted byte (backslash ∷ 120 ∷ hex_digit (byte / 16) ∷ hex_digit (byte % 16) ∷ [])
in_digits byte h rest = by_digits (byte / 16) (byte % 16) byte rest (omega arith) (omega arith) (div-add-mod byte 16)

printed : (closing byte : ℕ) → (closing ≡ quote) ⊎ (closing ≡ double_quote) → byte < 256 → IsPrinted byte (escaped_byte closing byte)
printed closing byte is h =
    by_cond (IsPrinted byte) ((byte == closing) || (byte == backslash)) (backslash ∷ byte ∷ []) _ (signs closing byte is)
    (λ none. by_cond (IsPrinted byte) (nat_le 32 byte && nat_le byte 126) (byte ∷ []) _ (λ _. plain byte (or_none (byte == closing) (byte == backslash) none)) (λ _. in_digits byte h))

pub printed_spells : (closing : ℕ) (bytes : List ℕ) → (closing ≡ quote) ⊎ (closing ≡ double_quote) → All (λ byte. byte < 256) bytes → Spells (flat_map (escaped_byte closing) bytes) bytes
printed_spells closing [] is h = nothing
printed_spells closing (byte ∷ bytes) is h =
    byte_and (printed closing byte is (All-head (λ b. b < 256) byte bytes h) (flat_map (escaped_byte closing) bytes)) (printed_spells closing bytes is (All-tail (λ b. b < 256) byte bytes h)) refl
