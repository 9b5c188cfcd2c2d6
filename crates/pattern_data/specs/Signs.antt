-- The signs of a pattern's text: a set of bytes, however it is written, or a mark.
use Rattle.std.specs.Prelude.{◌≡◌, ℕ, ◌<◌, ◌==◌, if◌then◌else◌, List, [], ◌∷◌, Option, None, Some}
use Rattle.pattern_data.specs.Bytes.{only_byte}
use Rattle.pattern_data.specs.Escapes.{Front}
use Rattle.pattern_data.specs.Sets.{IsAnyByte}
use Rattle.pattern_data.specs.Classes.{written_byte, IsClass}
use Rattle.pattern_data.specs.declared.signs.Sign.{Sign}
use Rattle.pattern_data.specs.declared.signs.Sign.TheVariants.{Set, Open, Close, Bar, Repeat}
use Rattle.pattern_data.specs.declared.signs.Repetition.TheVariants.{Star, Plus, Opt}
use Rattle.pattern_data.specs.declared.signs.Kind.{Kind}
use Rattle.pattern_data.specs.declared.signs.Kind.TheVariants.{Byte, AnyByte, Class, Mark, Nothing}

-- what a byte begins
abbrev pub kind_of : ℕ → Kind
kind_of byte =
    if byte == 46 then AnyByte
    else (if byte == 91 then Class
    else (if byte == 40 then Mark Open
    else (if byte == 41 then Mark Close
    else (if byte == 124 then Mark Bar
    else (if byte == 42 then Mark (Repeat Star)
    else (if byte == 43 then Mark (Repeat Plus)
    else (if byte == 63 then Mark (Repeat Opt)
    else (if byte == 93 then Nothing
    else (if byte == 47 then Nothing
    else Byte)))))))))

-- the set of one byte that is written at the front
abbrev pub IsByteSign : Option Front → Sign → List ℕ → Type 0
IsByteSign None sign rest = ⊥
IsByteSign (Some front) sign rest = (front.0 < 256) × (sign ≡ Set (only_byte front.0)) × (rest ≡ front.1)

-- the set of a class whose `[` stands before the text
abbrev pub IsClassSign : List ℕ → Sign → List ℕ → Type 0
IsClassSign text sign rest = (words : List ℕ) × IsClass text words rest × (sign ≡ Set words)

-- the sign at the front of a text, by what its first byte begins
abbrev pub IsSignOf : Kind → ℕ → List ℕ → Sign → List ℕ → Type 0
IsSignOf Byte byte behind sign rest = IsByteSign (written_byte (byte ∷ behind)) sign rest
IsSignOf AnyByte byte behind sign rest = (words : List ℕ) × IsAnyByte words × (sign ≡ Set words) × (rest ≡ behind)
IsSignOf Class byte behind sign rest = IsClassSign behind sign rest
IsSignOf (Mark mark) byte behind sign rest = (sign ≡ mark) × (rest ≡ behind)
IsSignOf Nothing byte behind sign rest = ⊥

-- the sign at the front of a text, and what is left behind it
abbrev pub IsSign : List ℕ → Sign → List ℕ → Type 0
IsSign [] sign rest = ⊥
IsSign (byte ∷ behind) sign rest = IsSignOf (kind_of byte) byte behind sign rest

-- the text is these signs, one after another
pub data AreSigns : List ℕ → List Sign → Type 0 where
  no_sign : {text : List ℕ} {signs : List Sign} → text ≡ [] → signs ≡ [] → AreSigns text signs
  sign_and : {text rest : List ℕ} {sign : Sign} {others signs : List Sign} → IsSign text sign rest → AreSigns rest others → signs ≡ sign ∷ others → AreSigns text signs
