-- The bytes of a sheet, by kind.
use Rattle.std.specs.Prelude.{ℕ, nat_lt, nat_le, Bool, ◌&&◌, ◌||◌, ◌==◌, not}
pub use Rattle.pattern_data.specs.Escapes.{is_digit, is_punctuation}

-- a letter or `_`
abbrev pub is_name_start : ℕ → Bool
is_name_start byte = (nat_le 65 byte && nat_le byte 90) || ((nat_le 97 byte && nat_le byte 122) || (byte == 95))

-- a letter, a digit or `_`
abbrev pub is_name_byte : ℕ → Bool
is_name_byte byte = is_name_start byte || is_digit byte

-- a space, a tab, a carriage return or a line feed
abbrev pub is_blank : ℕ → Bool
is_blank byte = (byte == 32) || ((byte == 9) || ((byte == 13) || (byte == 10)))

-- a byte that is bad everywhere but in a comment: 0x7F, and those below 0x20 that are no blanks
abbrev pub is_bad_in_text : ℕ → Bool
is_bad_in_text byte = (byte == 127) || (nat_lt byte 32 && not (is_blank byte))

-- a byte that is bad outside of comments and of texts between closing bytes: one from 0x80 up is, too
abbrev pub is_bad : ℕ → Bool
is_bad byte = is_bad_in_text byte || nat_le 128 byte
