-- What is printed between quotes is a text that its closing byte ends.
use Rattle.std.proofs.Common.{◌≡◌, ℕ, suc, ◌+◌, ◌-◌, ◌/◌, ◌%◌, ◌<◌, ◌≤◌, ◌⊎◌, Bool, true, false, cond, List, [], ◌∷◌, ◌++◌, length, get_or, refl, sym, ap, subst, ◌∙◌, inl, inr, ⊎_elim, arith, length-append}
use Rattle.std.specs.Prelude.{All, ◌&&◌, ◌||◌, ◌==◌, nat_lt, nat_le, not, slice_range}
use Rattle.std.specs.List.{flat_map, list_any}
use Rattle.std.proofs.lemmas.Bool.{false≢true, eqb-true, eq-eqb, cases_lt, lt-ltb, and_right}
use Rattle.std.proofs.lemmas.Bool.Decides.{nat_tests}
use Rattle.std.proofs.lemmas.List.Elements.{All-head, All-tail, All-append, All-nil, All-cons}
use Rattle.scanning_theory.specs.Lines.{line_feed}
use Rattle.sheet_theory.specs.Names.{quote, double_quote, backslash, hex_digit, escaped_byte}
use Rattle.outline_theory.specs.Layout.{slash}
use Rattle.lexeme_theory.specs.SheetBytes.{is_bad_in_text}
use Rattle.lexeme_theory.specs.Texts.{is_taken_at, text_goes_on, IsTextRun, is_closed, has_bad_byte}
use Rattle.layout_laws.proofs.StandLemmas.{Stands, stands_front, stands_back, stands_inside, stands_range, stands_first, stands_last}

abbrev pub IsClosing : ℕ → Type 0
IsClosing closing = (closing ≡ quote) ⊎ (closing ≡ double_quote)

-- a quote, or the slash
abbrev pub IsEnding : ℕ → Type 0
IsEnding closing = (closing ≡ quote) ⊎ ((closing ≡ double_quote) ⊎ (closing ≡ slash))

quote_ends : (closing : ℕ) → IsClosing closing → IsEnding closing
quote_ends closing (inl e) = inl e
quote_ends closing (inr e) = inr (inl e)

-- a backslash takes the byte behind this one
abbrev pub next_taken : ℕ → Bool → Bool
next_taken byte taken = (byte == backslash) && not taken

-- the text goes on at this byte
abbrev pub goes : ℕ → ℕ → Bool → Bool
goes closing byte taken = not (byte == line_feed) && (not (byte == closing) || taken)

abbrev pub taken_after : List ℕ → Bool → Bool
taken_after [] taken = taken
taken_after (byte ∷ text) taken = taken_after text (next_taken byte taken)

abbrev pub AllGo : ℕ → List ℕ → Bool → Type 0
AllGo closing [] taken = Unit {0}
AllGo closing (byte ∷ text) taken = (goes closing byte taken ≡ true) × AllGo closing text (next_taken byte taken)

-- bytes of which none closes a text, leaves the byte behind them taken, or is bad
pub record IsSafe (closing : ℕ) (text : List ℕ) : Type 0 where
  pub all : AllGo closing text false
  pub free : taken_after text false ≡ false
  pub good : All (λ byte. is_bad_in_text byte ≡ false) text

go_append : (closing : ℕ) (text more : List ℕ) (taken : Bool) → AllGo closing text taken → AllGo closing more (taken_after text taken) → AllGo closing (text ++ more) taken
go_append closing [] more taken h k = k
go_append closing (byte ∷ text) more taken h k = (h.0, go_append closing text more (next_taken byte taken) h.1 k)

taken_append : (text more : List ℕ) (taken : Bool) → taken_after (text ++ more) taken ≡ taken_after more (taken_after text taken)
taken_append [] more taken = refl
taken_append (byte ∷ text) more taken = taken_append text more (next_taken byte taken)

pub safe_append : (closing : ℕ) (text more : List ℕ) → IsSafe closing text → IsSafe closing more → IsSafe closing (text ++ more)
safe_append closing text more h k = record {
  all = go_append closing text more false h.all (subst (AllGo closing more) (sym h.free) k.all);
  free = taken_append text more false ∙ ap (taken_after more) h.free ∙ k.free;
  good = All-append (λ byte. is_bad_in_text byte ≡ false) text more h.good k.good;
}

pub good_two : (a b : ℕ) → is_bad_in_text a ≡ false → is_bad_in_text b ≡ false → All (λ byte. is_bad_in_text byte ≡ false) (a ∷ b ∷ [])
good_two a b h k = let P : ℕ → Type 0 = λ byte. is_bad_in_text byte ≡ false in All-cons P a (b ∷ []) h (All-cons P b [] k (All-nil P))

-- a sign with a backslash before it
sign_safe : (closing sign byte : ℕ) → byte ≡ sign → IsSafe closing (backslash ∷ sign ∷ []) → IsSafe closing (backslash ∷ byte ∷ [])
sign_safe closing sign byte e h = subst (λ b. IsSafe closing (backslash ∷ b ∷ [])) (sym e) h

or_cases : (a b : Bool) → (a || b) ≡ true → (a ≡ true) ⊎ (b ≡ true)
or_cases true b e = inl refl
or_cases false b e = inr e

single_signs : (byte : ℕ) → ((byte == 39) || (byte == backslash)) ≡ true → IsSafe 39 (backslash ∷ byte ∷ [])
single_signs byte e = ⊎_elim
    (λ closes. sign_safe 39 39 byte (eqb-true byte 39 closes) (record { all = (refl, (refl, tt)); free = refl; good = good_two 92 39 refl refl }))
    (λ takes. sign_safe 39 92 byte (eqb-true byte 92 takes) (record { all = (refl, (refl, tt)); free = refl; good = good_two 92 92 refl refl }))
    (or_cases (byte == 39) (byte == backslash) e)

double_signs : (byte : ℕ) → ((byte == 34) || (byte == backslash)) ≡ true → IsSafe 34 (backslash ∷ byte ∷ [])
double_signs byte e = ⊎_elim
    (λ closes. sign_safe 34 34 byte (eqb-true byte 34 closes) (record { all = (refl, (refl, tt)); free = refl; good = good_two 92 34 refl refl }))
    (λ takes. sign_safe 34 92 byte (eqb-true byte 92 takes) (record { all = (refl, (refl, tt)); free = refl; good = good_two 92 92 refl refl }))
    (or_cases (byte == 34) (byte == backslash) e)

-- one byte for itself
single_goes : (closing byte : ℕ) → IsClosing closing → ((byte == closing) || (byte == backslash)) ≡ false → (nat_le 32 byte && nat_le byte 126) ≡ true → goes closing byte false ≡ true
single_goes closing byte is none shown = grind (arith, nat_tests)

single_free : (closing byte : ℕ) → ((byte == closing) || (byte == backslash)) ≡ false → next_taken byte false ≡ false
single_free closing byte none = grind (arith, nat_tests)

pub single_good : (byte : ℕ) → (nat_le 32 byte && nat_le byte 126) ≡ true → is_bad_in_text byte ≡ false
single_good byte shown = grind (arith, nat_tests)

itself_safe : (closing byte : ℕ) → IsClosing closing → ((byte == closing) || (byte == backslash)) ≡ false → (nat_le 32 byte && nat_le byte 126) ≡ true → IsSafe closing (byte ∷ [])
itself_safe closing byte is none shown = record {
  all = (single_goes closing byte is none shown, tt);
  free = single_free closing byte none;
  good = let P : ℕ → Type 0 = λ b. is_bad_in_text b ≡ false in All-cons P byte [] (single_good byte shown) (All-nil P);
}

-- a digit
digit_goes : (closing n : ℕ) → IsEnding closing → n < 16 → goes closing (hex_digit n) false ≡ true
digit_goes closing n is h = grind (arith, nat_tests)

digit_free : (n : ℕ) → n < 16 → next_taken (hex_digit n) false ≡ false
digit_free n h = grind (arith, nat_tests)

digit_good : (n : ℕ) → n < 16 → is_bad_in_text (hex_digit n) ≡ false
digit_good n h = grind (arith, nat_tests)

digit_safe : (closing n : ℕ) → IsEnding closing → n < 16 → IsSafe closing (hex_digit n ∷ [])
digit_safe closing n is h = record {
  all = (digit_goes closing n is h, tt);
  free = digit_free n h;
  good = let P : ℕ → Type 0 = λ b. is_bad_in_text b ≡ false in All-cons P (hex_digit n) [] (digit_good n h) (All-nil P);
}

hex_front : (closing : ℕ) → IsEnding closing → IsSafe closing (92 ∷ 120 ∷ [])
hex_front closing (inl e) = subst (λ c. IsSafe c (92 ∷ 120 ∷ [])) (sym e) (record { all = (refl, (refl, tt)); free = refl; good = good_two 92 120 refl refl })
hex_front closing (inr (inl e)) = subst (λ c. IsSafe c (92 ∷ 120 ∷ [])) (sym e) (record { all = (refl, (refl, tt)); free = refl; good = good_two 92 120 refl refl })
hex_front closing (inr (inr e)) = subst (λ c. IsSafe c (92 ∷ 120 ∷ [])) (sym e) (record { all = (refl, (refl, tt)); free = refl; good = good_two 92 120 refl refl })

pub hex_safe : (closing high low : ℕ) → IsEnding closing → high < 16 → low < 16 → IsSafe closing (backslash ∷ 120 ∷ hex_digit high ∷ hex_digit low ∷ [])
hex_safe closing high low is h k =
    safe_append closing (92 ∷ 120 ∷ []) (hex_digit high ∷ hex_digit low ∷ []) (hex_front closing is) (safe_append closing (hex_digit high ∷ []) (hex_digit low ∷ []) (digit_safe closing high is h) (digit_safe closing low is k))

by_cond : (P : List ℕ → Type 0) (b : Bool) (one other : List ℕ) → (b ≡ true → P one) → (b ≡ false → P other) → P (cond b one other)
by_cond P true one other first second = first refl
by_cond P false one other first second = second refl

signs_safe : (closing byte : ℕ) → IsClosing closing → ((byte == closing) || (byte == backslash)) ≡ true → IsSafe closing (backslash ∷ byte ∷ [])
signs_safe closing byte (inl e) h = subst (λ c. IsSafe c (backslash ∷ byte ∷ [])) (sym e) (single_signs byte (subst (λ c. ((byte == c) || (byte == backslash)) ≡ true) e h))
signs_safe closing byte (inr e) h = subst (λ c. IsSafe c (backslash ∷ byte ∷ [])) (sym e) (double_signs byte (subst (λ c. ((byte == c) || (byte == backslash)) ≡ true) e h))

byte_safe : (closing byte : ℕ) → IsClosing closing → byte < 256 → IsSafe closing (escaped_byte closing byte)
byte_safe closing byte is h =
    by_cond (IsSafe closing) ((byte == closing) || (byte == backslash)) (backslash ∷ byte ∷ []) _ (signs_safe closing byte is)
    (λ none. by_cond (IsSafe closing) (nat_le 32 byte && nat_le byte 126) (byte ∷ []) _ (λ shown. itself_safe closing byte is none shown) (λ _. hex_safe closing (byte / 16) (byte % 16) (quote_ends closing is) (omega arith) (omega arith)))

printed_safe : (closing : ℕ) (bytes : List ℕ) → IsClosing closing → All (λ byte. byte < 256) bytes → IsSafe closing (flat_map (escaped_byte closing) bytes)
printed_safe closing [] is h = record { all = tt; free = refl; good = All-nil (λ byte. is_bad_in_text byte ≡ false) }
printed_safe closing (byte ∷ bytes) is h =
    safe_append closing (escaped_byte closing byte) (flat_map (escaped_byte closing) bytes) (byte_safe closing byte is (All-head (λ b. b < 256) byte bytes h)) (printed_safe closing bytes is (All-tail (λ b. b < 256) byte bytes h))

-- ---- such a text where it stands

module _ (closing : ℕ) (bytes : List ℕ) (from : ℕ) where
  taken_more : (k : ℕ) (byte : ℕ) (text : List ℕ) (taken : Bool) → Stands bytes (from + k) (byte ∷ text) → is_taken_at bytes from k ≡ taken → is_taken_at bytes from (suc k) ≡ next_taken byte taken
  taken_more k byte text taken h e = ap (λ x. (x == backslash) && not (is_taken_at bytes from k)) (stands_first bytes (from + k) byte text h) ∙ ap (λ x. (byte == backslash) && not x) e

  behind : (k : ℕ) (byte : ℕ) (text : List ℕ) → Stands bytes (from + k) (byte ∷ text) → Stands bytes (from + suc k) text
  behind k byte text h =
      let e : from + k + 1 ≡ from + suc k = omega arith in
      subst (λ n. Stands bytes n text) e (stands_back bytes (from + k) (byte ∷ []) text h)

  taken_is : (k : ℕ) (text : List ℕ) (taken : Bool) → Stands bytes (from + k) text → is_taken_at bytes from k ≡ taken → is_taken_at bytes from (k + length text) ≡ taken_after text taken
  taken_is k [] taken h e = let same : k + 0 ≡ k = omega arith in ap (is_taken_at bytes from) same ∙ e
  taken_is k (byte ∷ text) taken h e =
      let same : k + suc (length text) ≡ suc k + length text = omega arith in
      ap (is_taken_at bytes from) same ∙ taken_is (suc k) text (next_taken byte taken) (behind k byte text h) (taken_more k byte text taken h e)

  goes_by : (k byte : ℕ) (taken : Bool) → get_or bytes (from + k) 0 ≡ byte → is_taken_at bytes from k ≡ taken → text_goes_on closing bytes from (from + k) ≡ goes closing byte taken
  goes_by k byte taken e f =
      let same : from + k - from ≡ k = omega arith in
      ap (λ n. not (get_or bytes (from + k) 0 == line_feed) && (not (get_or bytes (from + k) 0 == closing) || is_taken_at bytes from n)) same
      ∙ ap (λ x. not (get_or bytes (from + k) 0 == line_feed) && (not (get_or bytes (from + k) 0 == closing) || x)) f
      ∙ ap (λ b. not (b == line_feed) && (not (b == closing) || taken)) e

  goes_at : (k : ℕ) (text : List ℕ) (taken : Bool) → Stands bytes (from + k) text → is_taken_at bytes from k ≡ taken → AllGo closing text taken → (j : ℕ) → k ≤ j → j < k + length text → text_goes_on closing bytes from (from + j) ≡ true
  goes_at k [] taken h e all j above below = absurd (omega (arith, above, below))
  goes_at k (byte ∷ text) taken h e all j above below = ⊎_elim
      (λ later. goes_at (suc k) text (next_taken byte taken) (behind k byte text h) (taken_more k byte text taken h e) all.1 j (omega (arith, later)) (omega (arith, below)))
      (λ here. let same : j ≡ k = omega (arith, here, above) in ap (λ n. text_goes_on closing bytes from (from + n)) same ∙ goes_by k byte taken (stands_first bytes (from + k) byte text h) e ∙ all.0)
      (cases_lt k j)

closes : (closing : ℕ) → goes closing closing false ≡ false
closes closing = ap (λ b. not (closing == line_feed) && (not b || false)) (eq-eqb closing closing refl) ∙ and_right (not (closing == line_feed)) false refl

none_bad : (text : List ℕ) → All (λ byte. is_bad_in_text byte ≡ false) text → list_any is_bad_in_text text ≡ false
none_bad [] h = refl
none_bad (byte ∷ text) h =
    let P : ℕ → Type 0 = λ b. is_bad_in_text b ≡ false in
    ap (λ b. b || list_any is_bad_in_text text) (All-head P byte text h) ∙ none_bad text (All-tail P byte text h)

module _ (closing : ℕ) (bytes : List ℕ) (from : ℕ) (body : List ℕ) (safe : IsSafe closing body) (h : Stands bytes from (body ++ closing ∷ [])) where
  from_zero : from + 0 ≡ from
  from_zero = omega arith

  taken_all : Stands bytes (from + 0) body → is_taken_at bytes from (length body) ≡ taken_after body false
  taken_all front = let same : length body ≡ 0 + length body = omega arith in ap (is_taken_at bytes from) same ∙ taken_is closing bytes from 0 body false front refl

  text_run : IsTextRun closing bytes from (from + length body)
  text_run =
      let size : length (body ++ closing ∷ []) ≡ length body + 1 = length-append body (closing ∷ []) in
      let room = stands_inside bytes from (body ++ closing ∷ []) h (omega (arith, size)) in
      let front : Stands bytes (from + 0) body = subst (λ n. Stands bytes n body) (sym from_zero) (stands_front bytes from body (closing ∷ []) h) in
      record {
        ordered = omega arith;
        inside = omega (arith, room, size);
        each = λ i above below.
            let place : i ≡ from + (i - from) = omega (arith, above) in
            ap (λ n. text_goes_on closing bytes from n) place ∙ goes_at closing bytes from 0 body false front refl safe.all (i - from) (omega arith) (omega (arith, above, below));
        ended = λ below.
            goes_by closing bytes from (length body) closing false (stands_last bytes from body closing h) (taken_all front ∙ safe.free) ∙ closes closing;
      }

  text_good : has_bad_byte bytes from (from + length body) ≡ false
  text_good = ap (list_any is_bad_in_text) (stands_range bytes from body (stands_front bytes from body (closing ∷ []) h)) ∙ none_bad body safe.good

  and_true : (a b : Bool) → a ≡ true → b ≡ true → (a && b) ≡ true
  and_true true b p q = q
  and_true false b p q = absurd (false≢true p)

  text_closed : is_closed closing bytes (from + length body) ≡ true
  text_closed =
      let size : length (body ++ closing ∷ []) ≡ length body + 1 = length-append body (closing ∷ []) in
      let room = stands_inside bytes from (body ++ closing ∷ []) h (omega (arith, size)) in
      and_true (nat_lt (from + length body) (length bytes)) (get_or bytes (from + length body) 0 == closing) (lt-ltb (from + length body) (length bytes) (omega (arith, room, size))) (eq-eqb (get_or bytes (from + length body) 0) closing (stands_last bytes from body closing h))

-- a printed text, behind its first quote
pub record IsPrintedText (closing : ℕ) (bytes : List ℕ) (from : ℕ) (body : List ℕ) : Type 0 where
  pub run : IsTextRun closing bytes from (from + length body)
  pub good : has_bad_byte bytes from (from + length body) ≡ false
  pub closed : is_closed closing bytes (from + length body) ≡ true
  pub text : slice_range bytes from (from + length body) ≡ body

-- a text of which no byte closes it
pub ended_text : (closing : ℕ) (bytes : List ℕ) (from : ℕ) (body : List ℕ) → IsSafe closing body → Stands bytes from (body ++ closing ∷ []) → IsPrintedText closing bytes from body
ended_text closing bytes from body safe h = record {
  run = text_run closing bytes from body safe h;
  good = text_good closing bytes from body safe h;
  closed = text_closed closing bytes from body safe h;
  text = stands_range bytes from body (stands_front bytes from body (closing ∷ []) h);
}

pub printed_text : (closing : ℕ) (bytes : List ℕ) (from : ℕ) (text : List ℕ) → IsClosing closing → All (λ byte. byte < 256) text → Stands bytes from (flat_map (escaped_byte closing) text ++ closing ∷ []) → IsPrintedText closing bytes from (flat_map (escaped_byte closing) text)
printed_text closing bytes from text is small h = ended_text closing bytes from (flat_map (escaped_byte closing) text) (printed_safe closing text is small) h
