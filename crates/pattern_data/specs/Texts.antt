-- The normal text of a set of bytes.
use Rattle.std.specs.Prelude.{ℕ, zero, suc, ◌+◌, ◌/◌, ◌%◌, nat_le, Bool, ◌&&◌, ◌||◌, ◌==◌, not, if◌then◌else◌, List, [], ◌∷◌, ◌++◌, slice_index}
use Rattle.std.specs.List.{flat_map}
use Rattle.pattern_data.specs.Escapes.{backslash, is_digit, hex_digit}
use Rattle.pattern_data.specs.Sets.{has_bit}
use Rattle.pattern_data.specs.declared.classes.ByteRange.{ByteRange}

-- `.`, `[`, `]`, `(`, `)`, `*`, `+`, `?`, `|`, `\` and `/`
abbrev pub is_special : ℕ → Bool
is_special byte =
    (byte == 46) || ((byte == 91) || ((byte == 93) || ((byte == 40) || ((byte == 41) || ((byte == 42) || ((byte == 43) || ((byte == 63) || ((byte == 124) || ((byte == 92) || (byte == 47))))))))))

-- `\x` and two digits of base 16
abbrev pub hex_text : ℕ → List ℕ
hex_text byte = backslash ∷ 120 ∷ hex_digit (byte / 16) ∷ hex_digit (byte % 16) ∷ []

-- a byte outside of classes: with a backslash where it is special, as itself from 0x20 to 0x7E, else by its digits
abbrev pub byte_text : ℕ → List ℕ
byte_text byte =
    if is_special byte then backslash ∷ byte ∷ []
    else (if nat_le 32 byte && nat_le byte 126 then byte ∷ [] else hex_text byte)

abbrev pub is_letter_or_digit : ℕ → Bool
is_letter_or_digit byte = is_digit byte || ((nat_le 65 byte && nat_le byte 90) || (nat_le 97 byte && nat_le byte 122))

-- a byte in a class: a letter or digit as itself, else by its digits
abbrev pub member_text : ℕ → List ℕ
member_text byte = if is_letter_or_digit byte then byte ∷ [] else hex_text byte

-- one or two bytes as members, more as a range
abbrev pub run_text : ByteRange → List ℕ
run_text run =
    if run.low == run.high then member_text run.low
    else (if run.low + 1 == run.high then member_text run.low ++ member_text run.high
    else member_text run.low ++ 45 ∷ member_text run.high)

-- the line feed is in no set
abbrev pub has_byte : List ℕ → ℕ → Bool
has_byte words byte = not (byte == 10) && has_bit words byte

-- a byte before runs: it joins the first where they touch
abbrev pub run_before : ℕ → List ByteRange → List ByteRange
run_before byte [] = record { low = byte; high = byte } ∷ []
run_before byte (run ∷ runs) =
    if run.low == byte + 1 then record { low = byte; high = run.high } ∷ runs else record { low = byte; high = byte } ∷ run ∷ runs

-- the maximal runs of the set among so many bytes from one on, in rising order
unfoldable pub runs_from : List ℕ → ℕ → ℕ → List ByteRange
runs_from words byte zero = []
runs_from words byte (suc count) =
    if has_byte words byte then run_before byte (runs_from words (byte + 1) count) else runs_from words (byte + 1) count

abbrev pub runs_of : List ℕ → List ByteRange
runs_of words = runs_from words 0 256

abbrev pub class_text : List ByteRange → List ℕ
class_text runs = 91 ∷ (flat_map run_text runs ++ 93 ∷ [])

-- one byte alone, or a class
abbrev pub text_of_runs : List ByteRange → List ℕ
text_of_runs [] = class_text []
text_of_runs (run ∷ []) = if run.low == run.high then byte_text run.low else class_text (run ∷ [])
text_of_runs (run ∷ second ∷ runs) = class_text (run ∷ second ∷ runs)

-- the set of all bytes but the line feed
abbrev pub is_any : List ℕ → Bool
is_any words =
    (slice_index words 0 == 18446744073709550591) && ((slice_index words 1 == 18446744073709551615) && ((slice_index words 2 == 18446744073709551615) && (slice_index words 3 == 18446744073709551615)))

abbrev pub set_text : List ℕ → List ℕ
set_text words = if is_any words then 46 ∷ [] else text_of_runs (runs_of words)
