-- What every lexeme of bytes is: a name is a name, a number has at most 9 digits, and a text is of bytes.
use Rattle.std.proofs.Common.{◌≡◌, ℕ, suc, ◌+◌, ◌-◌, ◌*◌, ◌^◌, ◌<◌, ◌≤◌, Bool, true, false, cond, List, [], ◌∷◌, ◌++◌, length, get_or, take, drop, refl, sym, ap, subst, ◌∙◌, inl, inr, arith, length-take, get_or-drop, get_or-take, drop-cons}
use Rattle.std.specs.Prelude.{All, MatchBool, MatchOption, ◌&&◌, ◌==◌, nat_lt, nat_le, map, min, slice_range, slice_get, Option, Some, None}
use Rattle.std.proofs.lemmas.Bool.{leb-true, and_parts, or_left}
use Rattle.std.proofs.lemmas.Bool.Decides.{nat_tests}
use Rattle.std.proofs.lemmas.List.Elements.{All-cons, All-head, All-tail, All-take, All-drop, All-from_get_or}
use Rattle.std.proofs.Math.Nat.{pow-le-pow_right, mul-le-mul_right, pow-succ'}
use Rattle.sheet_theory.specs.Names.{backslash}
use Rattle.lexeme_theory.specs.declared.lexeme.Lexeme.{Lexeme}
use Rattle.lexeme_theory.specs.declared.lexeme.Lexeme.TheVariants.{Name, Number, Fold, NumberOf, Quoted, Text, Pattern, Directive as directive_lexeme, Mark, Single as single_lexeme}
use Rattle.lexeme_theory.specs.declared.found.Found.{Found}
use Rattle.lexeme_theory.specs.declared.found.Found.TheVariants.{Blank as blank_found, Lexeme as lexeme_found, Fault as fault_found}
use Rattle.lexeme_theory.specs.declared.begin.Begin.{Begin}
use Rattle.lexeme_theory.specs.declared.begin.Begin.TheVariants.{Blank as blank_begins, LineComment as line_comment_begins, BlockComment as block_comment_begins, Name as name_begins, Number as number_begins, Fold as fold_begins, NumberOf as number_of_begins, Quoted as quoted_begins, Text as text_begins, Pattern as pattern_begins, Directive as directive_begins, Mark as mark_begins, Single as single_begins, BadByte as bad_byte_begins, Nothing as nothing_begins}
use Rattle.lexeme_theory.specs.SheetBytes.{is_name_start, is_name_byte, is_digit}
use Rattle.lexeme_theory.specs.Runs.{IsRunOf}
use Rattle.lexeme_theory.specs.Begins.{begin_at}
use Rattle.lexeme_theory.specs.Decimals.{decimal_value}
use Rattle.lexeme_theory.specs.Escapes.{Front, is_hex_digit, hex_value, escape_of, front_by_digits, front_with, front_by_escape, front_of, Spells}
use Rattle.lexeme_theory.specs.Escapes.Spells.{nothing, byte_and}
use Rattle.lexeme_theory.specs.Texts.{is_closed, has_bad_byte}
use Rattle.lexeme_theory.specs.Stands.{bad_byte_fault, syntax_fault, number_found, IsNumberFound, IsDirectiveOf, IsTextOf, IsSpelledFound, IsSpelledText, IsFoundBy, IsLexeme}
use Rattle.lexeme_theory.specs.Reading.{Placed, AreLexemes}
use Rattle.lexeme_theory.specs.Reading.AreLexemes.{no_lexeme, blank_first, lexeme_first}
use Rattle.lexeme_theory.proofs.RunLemmas.{run_nonempty}
use Rattle.lexeme_theory.proofs.BeginLemmas.{Fits, fits_at}
use Rattle.outline_theory.specs.Spelling.{Kept, kept}
use Rattle.layout_laws.proofs.NumberLemmas.{AreDigits}
use Rattle.layout_laws.proofs.WordLemmas.{IsName, AreBytes}

abbrev pub IsGood : Lexeme → Type 0
IsGood (Name bytes) = IsName bytes
IsGood (Number n) = n < 1_000_000_000
IsGood (Fold n) = n < 1_000_000_000
IsGood (NumberOf n) = n < 1_000_000_000
IsGood (Quoted bytes) = AreBytes bytes
IsGood (Text bytes) = AreBytes bytes
IsGood (Pattern bytes) = Unit {0}
IsGood (directive_lexeme directive) = Unit {0}
IsGood Mark = Unit {0}
IsGood (single_lexeme single) = Unit {0}

abbrev pub IsGoodKept : Kept → Type 0
IsGoodKept k = IsGood k.0

abbrev pub AreGood : List Kept → Type 0
AreGood [] = Unit {0}
AreGood (k ∷ ks) = IsGoodKept k × AreGood ks

pub good_left : (ks ls : List Kept) → AreGood (ks ++ ls) → AreGood ks
good_left [] ls h = tt
good_left (k ∷ ks) ls h = (h.0, good_left ks ls h.1)

pub good_right : (ks ls : List Kept) → AreGood (ks ++ ls) → AreGood ls
good_right [] ls h = h
good_right (k ∷ ks) ls h = good_right ks ls h.1

abbrev IsGoodFound : Found → Type 0
IsGoodFound (blank_found next) = Unit {0}
IsGoodFound (lexeme_found lexeme next) = IsGood lexeme
IsGoodFound (fault_found kind) = Unit {0}

found_is : (found is : Found) → found ≡ is → IsGoodFound is → IsGoodFound found
found_is found is e h = subst IsGoodFound (sym e) h

-- ranges of bytes
range_bytes : (bytes : List ℕ) (from to : ℕ) → AreBytes bytes → AreBytes (slice_range bytes from to)
range_bytes bytes from to h = All-take (λ b. b < 256) (to - from) (drop from bytes) (All-drop (λ b. b < 256) from bytes h)

range_byte : (bytes : List ℕ) (from to i : ℕ) → i < to - from → get_or (slice_range bytes from to) i 0 ≡ get_or bytes (from + i) 0
range_byte bytes from to i within = get_or-take (to - from) (drop from bytes) i 0 within ∙ get_or-drop from bytes i 0

range_size : (bytes : List ℕ) (from to : ℕ) → length (slice_range bytes from to) ≤ to - from
range_size bytes from to = let e : length (slice_range bytes from to) ≡ min (to - from) (length (drop from bytes)) = length-take (to - from) (drop from bytes) in omega (arith, e)

range_run : (kind : ℕ → Bool) (bytes : List ℕ) (from to : ℕ) → IsRunOf kind bytes from to → All (λ byte. kind byte ≡ true) (slice_range bytes from to)
range_run kind bytes from to run =
    All-from_get_or (λ byte. kind byte ≡ true) (slice_range bytes from to) 0
    (λ i within.
    let size = range_size bytes from to in
    let here : i < to - from = omega (arith, size, within) in
    ap kind (range_byte bytes from to i here) ∙ run.each (from + i) (omega arith) (omega (arith, here)))

-- names
range_name : (bytes : List ℕ) (at to : ℕ) → at < length bytes → is_name_start (get_or bytes at 0) ≡ true → IsRunOf is_name_byte bytes at to → IsName (slice_range bytes at to)
range_name bytes at to inside begins run =
    let some : at < to = run_nonempty (λ i. is_name_byte (get_or bytes i 0)) (length bytes) at to inside (or_left (is_name_start (get_or bytes at 0)) (is_digit (get_or bytes at 0)) begins) run in
    let size : to - at ≡ suc (to - at - 1) = omega (arith, some) in
    record {
      first = get_or bytes at 0;
      rest = take (to - at - 1) (drop (suc at) bytes);
      is = ap (take (to - at)) (drop-cons bytes at 0 inside) ∙ ap (λ n. take n (get_or bytes at 0 ∷ drop (suc at) bytes)) size;
      begins = begins;
      all = range_run is_name_byte bytes at to run;
    }

-- numbers
digit_small : (byte : ℕ) → is_digit byte ≡ true → byte - 48 ≤ 9
digit_small byte h = let high = leb-true byte 57 (and_parts (nat_le 48 byte) (nat_le byte 57) h).1 in omega (arith, high)

value_small : (digits : List ℕ) → AreDigits digits → decimal_value digits < 10 ^ length digits
value_small [] h = let one : 10 ^ 0 ≡ 1 = refl in omega (arith, one)
value_small (digit ∷ digits) h =
    let P : ℕ → Type 0 = λ byte. is_digit byte ≡ true in
    let more : decimal_value digits < 10 ^ length digits = value_small digits (All-tail P digit digits h) in
    let here : (digit - 48) * 10 ^ length digits ≤ 9 * 10 ^ length digits = mul-le-mul_right (10 ^ length digits) (digit_small digit (All-head P digit digits h)) in
    let power : 10 ^ suc (length digits) ≡ 10 * 10 ^ length digits = pow-succ' 10 (length digits) in
    omega (arith, more, here, power)

few_small : (digits : List ℕ) → AreDigits digits → length digits ≤ 9 → decimal_value digits < 1_000_000_000
few_small digits h few =
    let nine : 10 ^ 9 ≡ 1_000_000_000 = refl in
    let power : 10 ^ length digits ≤ 10 ^ 9 = pow-le-pow_right (omega arith) few in
    let value = value_small digits h in
    omega (arith, nine, power, value)

cond_good : (b : Bool) (one : Found) → (b ≡ true → IsGoodFound one) → IsGoodFound (cond b one syntax_fault)
cond_good true one h = h refl
cond_good false one h = tt

number_good : (make : ℕ → Lexeme) (bytes : List ℕ) (from : ℕ) (found : Found) → ((n : ℕ) → n < 1_000_000_000 → IsGood (make n)) → IsNumberFound make bytes from found → IsGoodFound found
number_good make bytes from found good (to, run, is) =
    found_is found (number_found make bytes from to) is
    (cond_good (nat_le (to - from) 9) (lexeme_found (make (decimal_value (slice_range bytes from to))) to)
    (λ few. good _ (few_small (slice_range bytes from to) (range_run is_digit bytes from to run) (let size = range_size bytes from to in let nine = leb-true (to - from) 9 few in omega (arith, size, nine)))))

-- texts
abbrev IsSmallFront : Option Front → Type 0
IsSmallFront front = MatchOption front (Unit {0}) (λ f. (f.0 < 256) × AreBytes f.1)

front_cond : (b : Bool) (one other : Option Front) → (b ≡ true → IsSmallFront one) → (b ≡ false → IsSmallFront other) → IsSmallFront (cond b one other)
front_cond true one other h k = h refl
front_cond false one other h k = k refl

hex_small : (byte : ℕ) → is_hex_digit byte ≡ true → hex_value byte < 16
hex_small byte h = grind (arith, nat_tests)

abbrev IsSmallByte : Option ℕ → Type 0
IsSmallByte byte = MatchOption byte (Unit {0}) (λ b. b < 256)

byte_cond : (b : Bool) (one other : Option ℕ) → IsSmallByte one → IsSmallByte other → IsSmallByte (cond b one other)
byte_cond true one other h k = h
byte_cond false one other h k = k

escape_small : (byte : ℕ) → byte < 256 → IsSmallByte (escape_of byte)
escape_small byte h =
    byte_cond (byte == 110) (Some 10) _ (omega arith)
    (byte_cond (byte == 116) (Some 9) _ (omega arith)
    (byte_cond (byte == 114) (Some 13) _ (omega arith)
    (byte_cond _ (Some byte) None h tt)))

with_small : (byte : Option ℕ) (rest : List ℕ) → IsSmallByte byte → AreBytes rest → IsSmallFront (front_with byte rest)
with_small None rest h k = tt
with_small (Some byte) rest h k = (h, k)

tail_bytes : (byte : ℕ) (text : List ℕ) → AreBytes (byte ∷ text) → AreBytes text
tail_bytes byte text h = All-tail (λ b. b < 256) byte text h

head_byte : (byte : ℕ) (text : List ℕ) → AreBytes (byte ∷ text) → byte < 256
head_byte byte text h = All-head (λ b. b < 256) byte text h

digits_front : (text : List ℕ) → AreBytes text → IsSmallFront (front_by_digits text)
digits_front [] h = tt
digits_front (high ∷ []) h = tt
digits_front (high ∷ low ∷ rest) h =
    front_cond (is_hex_digit high && is_hex_digit low) (Some (16 * hex_value high + hex_value low, rest)) None
    (λ both. let parts = and_parts (is_hex_digit high) (is_hex_digit low) both in let one = hex_small high parts.0 in let other = hex_small low parts.1 in (omega (arith, one, other), tail_bytes low rest (tail_bytes high (low ∷ rest) h)))
    (λ _. tt)

escape_front : (text : List ℕ) → AreBytes text → IsSmallFront (front_by_escape text)
escape_front [] h = tt
escape_front (byte ∷ rest) h =
    front_cond (byte == 120) (front_by_digits rest) (front_with (escape_of byte) rest) (λ _. digits_front rest (tail_bytes byte rest h)) (λ _. with_small (escape_of byte) rest (escape_small byte (head_byte byte rest h)) (tail_bytes byte rest h))

front_small : (text : List ℕ) → AreBytes text → IsSmallFront (front_of text)
front_small [] h = tt
front_small (byte ∷ rest) h =
    front_cond (byte == backslash) (front_by_escape rest) (Some (byte, rest)) (λ _. escape_front rest (tail_bytes byte rest h)) (λ _. (head_byte byte rest h, tail_bytes byte rest h))

-- a text of bytes stands for bytes
pub spells_bytes : {text bytes : List ℕ} → Spells text bytes → AreBytes text → AreBytes bytes
spells_bytes nothing h = h
spells_bytes {text = text} (byte_and {byte = byte} {rest = rest} {bytes = bytes} front more is) h =
    let small : IsSmallFront (Some (byte, rest)) = subst IsSmallFront front (front_small text h) in
    subst AreBytes (sym is) (All-cons (λ b. b < 256) byte bytes small.0 (spells_bytes more small.1))

by_closed : (b : Bool) (Closed : Type 0) (found : Found) → (Closed → IsGoodFound found) → MatchBool b Closed (found ≡ syntax_fault) → IsGoodFound found
by_closed true Closed found closed of = closed of
by_closed false Closed found closed of = found_is found syntax_fault of tt

by_text : (bad : Bool) (Good : Type 0) (found : Found) → (Good → IsGoodFound found) → MatchBool bad (found ≡ bad_byte_fault) Good → IsGoodFound found
by_text true Good found good of = found_is found bad_byte_fault of tt
by_text false Good found good of = good of

text_good : (Closed : Found → Type 0) (closing : ℕ) (bytes : List ℕ) (from to : ℕ) (found : Found) → (Closed found → IsGoodFound found) → IsTextOf Closed closing bytes from to found → IsGoodFound found
text_good Closed closing bytes from to found closed of =
    by_text (has_bad_byte bytes from to) _ found (λ good. by_closed (is_closed closing bytes to) (Closed found) found closed good) of

spelled_good : (make : List ℕ → Lexeme) (text : List ℕ) (next : ℕ) (found : Found) → AreBytes text → ((bytes : List ℕ) → AreBytes bytes → IsGood (make bytes)) → IsSpelledFound make text next found → IsGoodFound found
spelled_good make text next found small good (inl a) = found_is found _ a.2 (good a.0 (spells_bytes a.1 small))
spelled_good make text next found small good (inr a) = found_is found syntax_fault a.1 tt

quotes_good : (make : List ℕ → Lexeme) (closing : ℕ) (bytes : List ℕ) (at : ℕ) (found : Found) → AreBytes bytes → ((text : List ℕ) → AreBytes text → IsGood (make text)) → IsSpelledText make closing bytes at found → IsGoodFound found
quotes_good make closing bytes at found small good (to, run, of) =
    text_good (IsSpelledFound make (slice_range bytes (at + 1) to) (to + 1)) closing bytes (at + 1) to found (λ closed. spelled_good make (slice_range bytes (at + 1) to) (to + 1) found (range_bytes bytes (at + 1) to small) good closed) of

directive_good : (word : List ℕ) (to : ℕ) (found : Found) → IsDirectiveOf word to found → IsGoodFound found
directive_good word to found (inl a) = found_is found _ a.2 tt
directive_good word to found (inr a) = found_is found syntax_fault a.1 tt

block_good : (b : Bool) (next : ℕ) → IsGoodFound (cond b (blank_found next) syntax_fault)
block_good true next = tt
block_good false next = tt

good_by : (begin : Begin) (bytes : List ℕ) (at : ℕ) (found : Found) → AreBytes bytes → at < length bytes → Fits begin (get_or bytes at 0) (slice_get bytes (at + 1)) → IsFoundBy begin bytes at found → IsGoodFound found
good_by blank_begins bytes at found small inside fits is = found_is found _ is tt
good_by line_comment_begins bytes at found small inside fits (to, run, is) = found_is found _ is tt
good_by block_comment_begins bytes at found small inside fits (to, run, is) = found_is found _ is (block_good (nat_lt to (length bytes)) (to + 2))
good_by name_begins bytes at found small inside fits (to, run, is) = found_is found _ is (range_name bytes at to inside fits run)
good_by number_begins bytes at found small inside fits is = number_good Number bytes at found (λ n h. h) is
good_by fold_begins bytes at found small inside fits is = number_good Fold bytes (at + 1) found (λ n h. h) is
good_by number_of_begins bytes at found small inside fits is = number_good NumberOf bytes (at + 1) found (λ n h. h) is
good_by quoted_begins bytes at found small inside fits is = quotes_good Quoted 39 bytes at found small (λ text h. h) is
good_by text_begins bytes at found small inside fits is = quotes_good Text 34 bytes at found small (λ text h. h) is
good_by pattern_begins bytes at found small inside fits (to, run, is) =
    text_good (λ f. f ≡ lexeme_found (Pattern (slice_range bytes (at + 1) to)) (to + 1)) 47 bytes (at + 1) to found (λ closed. found_is found _ closed tt) is
good_by directive_begins bytes at found small inside fits (to, run, is) = directive_good _ to found is
good_by mark_begins bytes at found small inside fits is = found_is found _ is tt
good_by (single_begins single) bytes at found small inside fits is = found_is found _ is tt
good_by bad_byte_begins bytes at found small inside fits is = found_is found bad_byte_fault is tt
good_by nothing_begins bytes at found small inside fits is = found_is found syntax_fault is tt

lexeme_good : (bytes : List ℕ) (at : ℕ) (lexeme : Lexeme) (next : ℕ) → AreBytes bytes → IsLexeme bytes at lexeme next → IsGood lexeme
lexeme_good bytes at lexeme next small h = good_by (begin_at bytes at) bytes at (lexeme_found lexeme next) small h.inside (fits_at bytes at) h.by

-- the lexemes of bytes are good
pub reading_good : (bytes : List ℕ) {from to : ℕ} {lexemes : List Placed} → AreBytes bytes → AreLexemes bytes from lexemes to → AreGood (map kept lexemes)
reading_good bytes small (no_lexeme same) = tt
reading_good bytes small (blank_first blank more) = reading_good bytes small more
reading_good bytes small (lexeme_first {from = from} {next = next} {lexeme = lexeme} {rest = rest} stands more is) =
    let P : List Placed → Type 0 = λ l. AreGood (map kept l) in
    subst P (sym is) (lexeme_good bytes from lexeme next small stands, reading_good bytes small more)
