-- What is left behind a byte as it is written is shorter than the text.
use Rattle.std.proofs.Common.{ℕ, ◌+◌, ◌*◌, ◌<◌, Bool, true, false, cond, List, [], ◌∷◌, length, arith}
use Rattle.std.specs.Prelude.{◌==◌, ◌&&◌, Option, None, Some, MatchOption}
use Rattle.pattern_data.specs.Escapes.{backslash, is_hex_digit, hex_value, escape_of, front_by_digits, front_with, front_by_escape, front_of}

-- what was read, if anything, leaves fewer bytes than this
abbrev pub IsShorter : {A : Type 0} → ℕ → Option (A × List ℕ) → Type 0
IsShorter {A} size front = MatchOption front (Unit {0}) (λ (f : A × List ℕ). length f.1 < size)

pub by_cond : {A : Type 0} (P : Option A → Type 0) (b : Bool) (one other : Option A) → P one → P other → P (cond b one other)
by_cond P true one other first second = first
by_cond P false one other first second = second

digits_shorter : (size : ℕ) (text : List ℕ) → length text < size → IsShorter size (front_by_digits text)
digits_shorter size [] h = tt
digits_shorter size (high ∷ []) h = tt
digits_shorter size (high ∷ low ∷ rest) h =
    by_cond (IsShorter size) (is_hex_digit high && is_hex_digit low) (Some (16 * hex_value high + hex_value low, rest)) None (omega arith) tt

with_shorter : (size : ℕ) (byte : Option ℕ) (rest : List ℕ) → length rest < size → IsShorter size (front_with byte rest)
with_shorter size None rest h = tt
with_shorter size (Some byte) rest h = h

escape_shorter : (size : ℕ) (text : List ℕ) → length text < size → IsShorter size (front_by_escape text)
escape_shorter size [] h = tt
escape_shorter size (byte ∷ rest) h =
    by_cond (IsShorter size) (byte == 120) (front_by_digits rest) (front_with (escape_of byte) rest) (digits_shorter size rest (omega arith)) (with_shorter size (escape_of byte) rest (omega arith))

-- a byte is read at least
pub front_shorter : (text : List ℕ) → IsShorter (length text) (front_of text)
front_shorter [] = tt
front_shorter (byte ∷ rest) =
    by_cond (IsShorter (length (byte ∷ rest))) (byte == backslash) (front_by_escape rest) (Some (byte, rest)) (escape_shorter (length (byte ∷ rest)) rest (omega arith)) (omega arith)
