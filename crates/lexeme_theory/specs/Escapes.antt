-- The bytes that are written between quotes.
use Rattle.std.specs.Prelude.{◌≡◌, ℕ, List, [], ◌∷◌, Some}
pub use Rattle.pattern_data.specs.Escapes.{is_hex_digit, hex_value, escape_of, Front, front_by_digits, front_with, front_by_escape, front_of}

-- the text stands for these bytes
pub data Spells : List ℕ → List ℕ → Type 0 where
  nothing : Spells [] []
  byte_and : {text : List ℕ} {byte : ℕ} {rest bytes all : List ℕ} → front_of text ≡ Some (byte, rest) → Spells rest bytes → all ≡ byte ∷ bytes → Spells text all
