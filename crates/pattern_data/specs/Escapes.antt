-- Bytes as they are written: a byte for itself, or an escape.
use Rattle.std.specs.Prelude.{ℕ, ◌+◌, ◌-◌, ◌*◌, nat_lt, nat_le, Bool, ◌&&◌, ◌||◌, ◌==◌, if◌then◌else◌, List, [], ◌∷◌, Option, None, Some}

abbrev pub backslash : ℕ
backslash = 92

abbrev pub is_digit : ℕ → Bool
is_digit byte = nat_le 48 byte && nat_le byte 57

-- the other bytes from 0x21 to 0x7E than letters and digits
abbrev pub is_punctuation : ℕ → Bool
is_punctuation byte =
    (nat_le 33 byte && nat_le byte 47) || ((nat_le 58 byte && nat_le byte 64) || ((nat_le 91 byte && nat_le byte 96) || (nat_le 123 byte && nat_le byte 126)))

-- a digit of base 16, of either case
abbrev pub is_hex_digit : ℕ → Bool
is_hex_digit byte = is_digit byte || ((nat_le 65 byte && nat_le byte 70) || (nat_le 97 byte && nat_le byte 102))

abbrev pub hex_value : ℕ → ℕ
hex_value byte = if nat_le byte 57 then byte - 48 else (if nat_le byte 70 then byte - 55 else byte - 87)

-- a digit of base 16, in lower case
abbrev pub hex_digit : ℕ → ℕ
hex_digit n = if nat_lt n 10 then 48 + n else 87 + n

-- the byte that a backslash and this byte stand for: `\n`, `\t` and `\r`, and a sign for itself
abbrev pub escape_of : ℕ → Option ℕ
escape_of byte =
    if byte == 110 then Some 10
    else (if byte == 116 then Some 9
    else (if byte == 114 then Some 13
    else (if is_punctuation byte then Some byte else None)))

-- a byte, and what is left behind it
abbrev pub Front : Type 0
Front = ℕ × List ℕ

-- by two digits of base 16
abbrev pub front_by_digits : List ℕ → Option Front
front_by_digits [] = None
front_by_digits (high ∷ []) = None
front_by_digits (high ∷ low ∷ rest) =
    if is_hex_digit high && is_hex_digit low then Some (16 * hex_value high + hex_value low, rest) else None

abbrev pub front_with : Option ℕ → List ℕ → Option Front
front_with None rest = None
front_with (Some byte) rest = Some (byte, rest)

-- behind a backslash
abbrev pub front_by_escape : List ℕ → Option Front
front_by_escape [] = None
front_by_escape (byte ∷ rest) = if byte == 120 then front_by_digits rest else front_with (escape_of byte) rest

-- the byte that the front of a text stands for: an escape, or a byte for itself; none where the escape is wrong, and
-- at the end
abbrev pub front_of : List ℕ → Option Front
front_of [] = None
front_of (byte ∷ rest) = if byte == backslash then front_by_escape rest else Some (byte, rest)
