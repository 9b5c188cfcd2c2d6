-- The printed names of a sheet's tokens.
use Rattle.std.specs.Prelude.{ℕ, ◌/◌, ◌%◌, ◌==◌, nat_le, ◌&&◌, ◌||◌, if◌then◌else◌, List, [], ◌∷◌, ◌++◌, map, codes}
use Rattle.std.specs.List.{flat_map}
pub use Rattle.pattern_data.specs.Escapes.{backslash, hex_digit}
use Rattle.sheet_data.specs.Sheet.{Sheet}
use Rattle.sheet_data.specs.declared.parts.Decl.{Decl}
use Rattle.sheet_data.specs.declared.parts.Decl.TheVariants.{Literal, Matched, Skip}

abbrev pub quote : ℕ
quote = 39

abbrev pub double_quote : ℕ
double_quote = 34

-- a byte inside a text that this byte closes: the closing byte and the backslash take a backslash, a byte from 0x20 to
-- 0x7E stands for itself, and every other one is `\x` and two digits
abbrev pub escaped_byte : ℕ → ℕ → List ℕ
escaped_byte closing byte =
    if (byte == closing) || (byte == backslash) then backslash ∷ byte ∷ []
    else (if nat_le 32 byte && nat_le byte 126 then byte ∷ []
    else backslash ∷ 120 ∷ hex_digit (byte / 16) ∷ hex_digit (byte % 16) ∷ [])

-- a text between two of its closing byte
abbrev pub escaped : ℕ → List ℕ → List ℕ
escaped closing bytes = closing ∷ (flat_map (escaped_byte closing) bytes ++ closing ∷ [])

-- the names of the tokens that the declarations name, in their order, which is that of the tokens' numbers
abbrev pub declared_names : List Decl → List (List ℕ)
declared_names [] = []
declared_names (Literal name bytes ∷ decls) = name ∷ declared_names decls
declared_names (Matched name pattern ∷ decls) = name ∷ declared_names decls
declared_names (Skip pattern ∷ decls) = declared_names decls

-- the printed name of each token by its number: a declared name, or the quoted literal; then those of the end mark and
-- of the bad byte
unfoldable pub token_names : Sheet → List (List ℕ)
token_names sheet =
    declared_names sheet.decls ++ (map (escaped quote) sheet.literals ++ (codes "end of text" ∷ codes "bad byte" ∷ []))
