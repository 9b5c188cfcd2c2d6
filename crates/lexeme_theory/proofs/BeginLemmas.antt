-- What the beginnings say of the bytes.
use Rattle.std.proofs.Common.{◌≡◌, ℕ, ◌+◌, ◌<◌, Bool, true, false, cond, List, length, refl, subst}
use Rattle.std.specs.Prelude.{◌==◌, Option, None, Some, slice_get, slice_index}
use Rattle.std.proofs.lemmas.Bool.{false≢true}
use Rattle.std.proofs.lemmas.Option.{slice_get_within}
use Rattle.lexeme_theory.specs.declared.begin.Begin.{Begin}
use Rattle.lexeme_theory.specs.declared.begin.Begin.TheVariants.{Blank, LineComment, BlockComment, Name, Number, Fold, NumberOf, Quoted, Text, Pattern, Directive, Mark, Single, BadByte, Nothing}
use Rattle.lexeme_theory.specs.declared.lexeme.Single.TheVariants.{Colon, Bar, Semicolon, LeftBrace, RightBrace}
use Rattle.lexeme_theory.specs.SheetBytes.{is_blank, is_name_start, is_digit, is_bad}
use Rattle.lexeme_theory.specs.Begins.{is_of, begin_by_slash, begin_by_percent, begin_by_place, begin_by_single, begin_by_sign, begin_by, begin_at}

abbrev pub HasSecond : Option ℕ → Type 0
HasSecond second = (byte : ℕ) × (second ≡ Some byte)

-- what a beginning says of its bytes
abbrev pub Fits : Begin → ℕ → Option ℕ → Type 0
Fits Blank byte second = Unit {0}
Fits LineComment byte second = HasSecond second
Fits BlockComment byte second = HasSecond second
Fits Name byte second = is_name_start byte ≡ true
Fits Number byte second = is_digit byte ≡ true
Fits Fold byte second = HasSecond second
Fits NumberOf byte second = HasSecond second
Fits Quoted byte second = Unit {0}
Fits Text byte second = Unit {0}
Fits Pattern byte second = Unit {0}
Fits Directive byte second = HasSecond second
Fits Mark byte second = HasSecond second
Fits (Single single) byte second = Unit {0}
Fits BadByte byte second = Unit {0}
Fits Nothing byte second = Unit {0}

by_cond : (P : Begin → Type 0) (b : Bool) (one other : Begin) → (b ≡ true → P one) → (b ≡ false → P other) → P (cond b one other)
by_cond P true one other first second = first refl
by_cond P false one other first second = second refl

second_of : (kind : ℕ → Bool) (second : Option ℕ) → is_of kind second ≡ true → HasSecond second
second_of kind None h = absurd (false≢true h)
second_of kind (Some byte) h = (byte, refl)

slash_fits : (byte : ℕ) (second : Option ℕ) → Fits (begin_by_slash second) byte second
slash_fits byte second =
    let P : Begin → Type 0 = λ b. Fits b byte second in
    by_cond P (is_of (λ b. b == 42) second) BlockComment _ (λ h. second_of (λ b. b == 42) second h)
    (λ _. by_cond P (is_of (λ b. b == 47) second) LineComment Pattern (λ h. second_of (λ b. b == 47) second h) (λ _. tt))

percent_fits : (byte : ℕ) (second : Option ℕ) → Fits (begin_by_percent second) byte second
percent_fits byte second =
    let P : Begin → Type 0 = λ b. Fits b byte second in
    by_cond P (is_of (λ b. b == 37) second) Mark _ (λ h. second_of (λ b. b == 37) second h)
    (λ _. by_cond P (is_of is_name_start second) Directive Nothing (λ h. second_of is_name_start second h) (λ _. tt))

fold_fits : (byte : ℕ) (second : Option ℕ) → Fits (begin_by_place Fold second) byte second
fold_fits byte second =
    let P : Begin → Type 0 = λ b. Fits b byte second in
    by_cond P (is_of is_digit second) Fold Nothing (λ h. second_of is_digit second h) (λ _. tt)

number_of_fits : (byte : ℕ) (second : Option ℕ) → Fits (begin_by_place NumberOf second) byte second
number_of_fits byte second =
    let P : Begin → Type 0 = λ b. Fits b byte second in
    by_cond P (is_of is_digit second) NumberOf Nothing (λ h. second_of is_digit second h) (λ _. tt)

single_fits : (byte : ℕ) (second : Option ℕ) → Fits (begin_by_single byte) byte second
single_fits byte second =
    let P : Begin → Type 0 = λ b. Fits b byte second in
    by_cond P (byte == 58) (Single Colon) _ (λ _. tt) (λ _.
    by_cond P (byte == 124) (Single Bar) _ (λ _. tt) (λ _.
    by_cond P (byte == 59) (Single Semicolon) _ (λ _. tt) (λ _.
    by_cond P (byte == 123) (Single LeftBrace) _ (λ _. tt) (λ _.
    by_cond P (byte == 125) (Single RightBrace) _ (λ _. tt) (λ _.
    by_cond P (is_bad byte) BadByte Nothing (λ _. tt) (λ _. tt))))))

sign_fits : (byte : ℕ) (second : Option ℕ) → Fits (begin_by_sign byte second) byte second
sign_fits byte second =
    let P : Begin → Type 0 = λ b. Fits b byte second in
    by_cond P (byte == 47) (begin_by_slash second) _ (λ _. slash_fits byte second) (λ _.
    by_cond P (byte == 37) (begin_by_percent second) _ (λ _. percent_fits byte second) (λ _.
    by_cond P (byte == 36) (begin_by_place Fold second) _ (λ _. fold_fits byte second) (λ _.
    by_cond P (byte == 35) (begin_by_place NumberOf second) _ (λ _. number_of_fits byte second) (λ _.
    by_cond P (byte == 39) Quoted _ (λ _. tt) (λ _.
    by_cond P (byte == 34) Text (begin_by_single byte) (λ _. tt) (λ _. single_fits byte second))))))

pub begin_fits : (byte : ℕ) (second : Option ℕ) → Fits (begin_by byte second) byte second
begin_fits byte second =
    let P : Begin → Type 0 = λ b. Fits b byte second in
    by_cond P (is_blank byte) Blank _ (λ _. tt) (λ _.
    by_cond P (is_name_start byte) Name _ (λ h. h) (λ _.
    by_cond P (is_digit byte) Number (begin_by_sign byte second) (λ h. h) (λ _. sign_fits byte second)))

-- the beginning of a place says so of the bytes there
pub fits_at : (bytes : List ℕ) (at : ℕ) → Fits (begin_at bytes at) (slice_index bytes at) (slice_get bytes (at + 1))
unfolding begin_at
fits_at bytes at = begin_fits (slice_index bytes at) (slice_get bytes (at + 1))

pub second_inside : (bytes : List ℕ) (at : ℕ) → HasSecond (slice_get bytes (at + 1)) → at + 1 < length bytes
second_inside bytes at h = slice_get_within bytes (at + 1) h.0 h.1

second_of_line_comment : (bytes : List ℕ) (at : ℕ) → begin_at bytes at ≡ LineComment → HasSecond (slice_get bytes (at + 1))
second_of_line_comment bytes at e = subst (λ b. Fits b (slice_index bytes at) (slice_get bytes (at + 1))) e (fits_at bytes at)

second_of_block_comment : (bytes : List ℕ) (at : ℕ) → begin_at bytes at ≡ BlockComment → HasSecond (slice_get bytes (at + 1))
second_of_block_comment bytes at e = subst (λ b. Fits b (slice_index bytes at) (slice_get bytes (at + 1))) e (fits_at bytes at)

-- both comments begin with two bytes
pub line_comment-inside : (bytes : List ℕ) (at : ℕ) → begin_at bytes at ≡ LineComment → at + 1 < length bytes
line_comment-inside bytes at e = second_inside bytes at (second_of_line_comment bytes at e)

pub block_comment-inside : (bytes : List ℕ) (at : ℕ) → begin_at bytes at ≡ BlockComment → at + 1 < length bytes
block_comment-inside bytes at e = second_inside bytes at (second_of_block_comment bytes at e)
