-- What begins at a place, by the byte there and the one behind it.
use Rattle.std.specs.Prelude.{ℕ, ◌+◌, Bool, false, ◌==◌, if◌then◌else◌, List, Option, None, Some, slice_get, slice_index}
use Rattle.lexeme_theory.specs.declared.lexeme.Single.TheVariants.{Colon, Bar, Semicolon, LeftBrace, RightBrace}
use Rattle.lexeme_theory.specs.declared.begin.Begin.{Begin}
use Rattle.lexeme_theory.specs.declared.begin.Begin.TheVariants.{Blank, LineComment, BlockComment, Name, Number, Fold, NumberOf, Quoted, Text, Pattern, Directive, Mark, Single as single_begins, BadByte, Nothing}
use Rattle.lexeme_theory.specs.SheetBytes.{is_blank, is_name_start, is_digit, is_bad}

-- there is a byte, and it is of the kind
abbrev pub is_of : (ℕ → Bool) → Option ℕ → Bool
is_of kind None = false
is_of kind (Some byte) = kind byte

-- by the byte behind `/`
abbrev pub begin_by_slash : Option ℕ → Begin
begin_by_slash second =
    if is_of (λ b. b == 42) second then BlockComment else (if is_of (λ b. b == 47) second then LineComment else Pattern)

-- by the byte behind `%`
abbrev pub begin_by_percent : Option ℕ → Begin
begin_by_percent second =
    if is_of (λ b. b == 37) second then Mark else (if is_of is_name_start second then Directive else Nothing)

-- by the byte behind `$` or `#`: a place needs a number
abbrev pub begin_by_place : Begin → Option ℕ → Begin
begin_by_place place second = if is_of is_digit second then place else Nothing

-- by one byte that no other rule knows
abbrev pub begin_by_single : ℕ → Begin
begin_by_single byte =
    if byte == 58 then single_begins Colon
    else (if byte == 124 then single_begins Bar
    else (if byte == 59 then single_begins Semicolon
    else (if byte == 123 then single_begins LeftBrace
    else (if byte == 125 then single_begins RightBrace
    else (if is_bad byte then BadByte else Nothing)))))

-- by a byte that is no blank and begins no name and no number
abbrev pub begin_by_sign : ℕ → Option ℕ → Begin
begin_by_sign byte second =
    if byte == 47 then begin_by_slash second
    else (if byte == 37 then begin_by_percent second
    else (if byte == 36 then begin_by_place Fold second
    else (if byte == 35 then begin_by_place NumberOf second
    else (if byte == 39 then Quoted
    else (if byte == 34 then Text
    else begin_by_single byte)))))

-- by a byte, and the one behind it
abbrev pub begin_by : ℕ → Option ℕ → Begin
begin_by byte second =
    if is_blank byte then Blank
    else (if is_name_start byte then Name
    else (if is_digit byte then Number
    else begin_by_sign byte second))

-- at a place before the end
unfoldable pub begin_at : List ℕ → ℕ → Begin
begin_at bytes at = begin_by (slice_index bytes at) (slice_get bytes (at + 1))
