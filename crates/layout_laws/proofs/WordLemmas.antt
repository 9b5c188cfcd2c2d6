-- The words of a layout, and the lexemes that they are.
use Rattle.std.proofs.Common.{◌≡◌, ℕ, ◌+◌, ◌-◌, ◌<◌, ◌≤◌, ◌⊎◌, Bool, true, false, cond, List, [], ◌∷◌, ◌++◌, length, refl, sym, ap, subst, ◌∙◌, inl, inr, arith, length-append}
use Rattle.std.specs.Prelude.{◌==◌, All, MatchBool, Option, Some, slice_get, slice_range, codes}
use Rattle.std.specs.List.{flat_map}
use Rattle.std.specs.Fmt.{decimal}
use Rattle.std.proofs.lemmas.Bool.{false≢true, le-leb, ne_eqb}
use Rattle.std.proofs.lemmas.Bool.Decides.{nat_tests}
use Rattle.std.proofs.lemmas.List.Elements.{All-head, All-from_recursion}
use Rattle.sheet_theory.specs.Names.{quote, double_quote, escaped_byte, escaped}
use Rattle.lexeme_theory.specs.declared.lexeme.Lexeme.{Lexeme}
use Rattle.lexeme_theory.specs.declared.lexeme.Lexeme.TheVariants.{Name, Number, Fold, NumberOf, Quoted, Text, Pattern, Directive as directive_lexeme, Mark, Single as single_lexeme}
use Rattle.lexeme_theory.specs.declared.lexeme.Directive.{Directive}
use Rattle.lexeme_theory.specs.declared.lexeme.Directive.TheVariants.{Token, Skip, Start, Declares}
use Rattle.lexeme_theory.specs.declared.lexeme.Single.{Single}
use Rattle.lexeme_theory.specs.declared.lexeme.Single.TheVariants.{Colon, Bar, Semicolon, LeftBrace, RightBrace}
use Rattle.lexeme_theory.specs.declared.found.Found.{Found}
use Rattle.lexeme_theory.specs.declared.found.Found.TheVariants.{Blank as blank_found, Lexeme as lexeme_found}
use Rattle.lexeme_theory.specs.declared.begin.Begin.{Begin}
use Rattle.lexeme_theory.specs.declared.begin.Begin.TheVariants.{Blank as blank_begins, LineComment as line_comment_begins, BlockComment as block_comment_begins, Pattern as pattern_begins, Name as name_begins, Number as number_begins, Fold as fold_begins, NumberOf as number_of_begins, Quoted as quoted_begins, Text as text_begins, Directive as directive_begins, Mark as mark_begins, Single as single_begins, Nothing as nothing_begins}
use Rattle.lexeme_theory.specs.SheetBytes.{is_blank, is_name_start, is_name_byte, is_digit}
use Rattle.lexeme_theory.specs.Begins.{begin_by_sign, begin_by, begin_at}
use Rattle.lexeme_theory.specs.Decimals.{decimal_value}
use Rattle.lexeme_theory.specs.Escapes.{Spells}
use Rattle.lexeme_theory.specs.Texts.{is_closed, has_bad_byte}
use Rattle.lexeme_theory.specs.Stands.{syntax_fault, number_found, directive_word, IsNumberFound, IsSpelledFound, IsSpelledText, IsTextOf, IsFoundBy, IsFound, IsLexeme, IsBlank}
use Rattle.lexeme_theory.proofs.PrintedLemmas.{printed_spells}
use Rattle.outline_theory.specs.Layout.{slash}
use Rattle.layout_laws.proofs.StandLemmas.{Stands, stands_front, stands_back, stands_inside, stands_get, stands_range, stands_first, stands_run}
use Rattle.layout_laws.proofs.TextLemmas.{IsClosing, IsSafe, IsPrintedText, ended_text, printed_text}
use Rattle.layout_laws.proofs.NumberLemmas.{AreDigits, IsNumber, printed_number}

-- a letter or `_`, and then such, and digits
pub record IsName (word : List ℕ) : Type 0 where
  pub first : ℕ
  pub rest : List ℕ
  pub is : word ≡ first ∷ rest
  pub begins : is_name_start first ≡ true
  pub all : All (λ byte. is_name_byte byte ≡ true) word

abbrev pub single_word : Single → List ℕ
single_word Colon = codes ":"
single_word Bar = codes "|"
single_word Semicolon = codes ";"
single_word LeftBrace = codes "{"
single_word RightBrace = codes "}"

abbrev pub AreBytes : List ℕ → Type 0
AreBytes bytes = All (λ byte. byte < 256) bytes

-- what may stand between slashes as it is: no byte closes it, and with the slash before it, it begins no comment
pub record IsPatternText (text : List ℕ) : Type 0 where
  pub first : ℕ
  pub rest : List ℕ
  pub is : text ≡ first ∷ rest
  pub no_star : first ≡ 42 → ⊥
  pub no_slash : first ≡ 47 → ⊥
  pub safe : IsSafe slash text

-- the lexeme is printed as this word
pub data Prints : Lexeme → List ℕ → Type 0 where
  name_printed : {word : List ℕ} → IsName word → Prints (Name word) word
  number_printed : {n : ℕ} → n < 1_000_000_000 → Prints (Number n) (decimal n)
  fold_printed : {n : ℕ} → n < 1_000_000_000 → Prints (Fold n) (36 ∷ decimal n)
  number_of_printed : {n : ℕ} → n < 1_000_000_000 → Prints (NumberOf n) (35 ∷ decimal n)
  quoted_printed : {bytes : List ℕ} → AreBytes bytes → Prints (Quoted bytes) (escaped quote bytes)
  text_printed : {bytes : List ℕ} → AreBytes bytes → Prints (Text bytes) (escaped double_quote bytes)
  pattern_printed : {text : List ℕ} → IsPatternText text → Prints (Pattern text) (slash ∷ (text ++ slash ∷ []))
  directive_printed : {directive : Directive} → Prints (directive_lexeme directive) (37 ∷ directive_word directive)
  mark_printed : Prints Mark (codes "%%")
  single_printed : {single : Single} → Prints (single_lexeme single) (single_word single)

-- a space, or the line feed
abbrev pub IsSeparator : ℕ → Type 0
IsSeparator separator = (separator ≡ 32) ⊎ (separator ≡ 10)

no_name_byte : (separator : ℕ) → IsSeparator separator → is_name_byte separator ≡ false
no_name_byte separator (inl e) = subst (λ b. is_name_byte b ≡ false) (sym e) refl
no_name_byte separator (inr e) = subst (λ b. is_name_byte b ≡ false) (sym e) refl

no_digit : (separator : ℕ) → IsSeparator separator → is_digit separator ≡ false
no_digit separator (inl e) = subst (λ b. is_digit b ≡ false) (sym e) refl
no_digit separator (inr e) = subst (λ b. is_digit b ≡ false) (sym e) refl

blank_byte : (separator : ℕ) → IsSeparator separator → is_blank separator ≡ true
blank_byte separator (inl e) = subst (λ b. is_blank b ≡ true) (sym e) refl
blank_byte separator (inr e) = subst (λ b. is_blank b ≡ true) (sym e) refl

-- what begins
name_no_blank : (byte : ℕ) → is_name_start byte ≡ true → is_blank byte ≡ false
name_no_blank byte h = grind (arith, nat_tests)

digit_no_blank : (byte : ℕ) → is_digit byte ≡ true → is_blank byte ≡ false
digit_no_blank byte h = grind (arith, nat_tests)

digit_no_name : (byte : ℕ) → is_digit byte ≡ true → is_name_start byte ≡ false
digit_no_name byte h = grind (arith, nat_tests)

blank_begins_by : (byte : ℕ) (second : Option ℕ) → is_blank byte ≡ true → begin_by byte second ≡ blank_begins
blank_begins_by byte second h = ap (λ b. cond b blank_begins (cond (is_name_start byte) name_begins (cond (is_digit byte) number_begins (begin_by_sign byte second)))) h

name_begins_by : (byte : ℕ) (second : Option ℕ) → is_name_start byte ≡ true → begin_by byte second ≡ name_begins
name_begins_by byte second h =
    ap (λ b. cond b blank_begins (cond (is_name_start byte) name_begins (cond (is_digit byte) number_begins (begin_by_sign byte second)))) (name_no_blank byte h) ∙ ap (λ b. cond b name_begins (cond (is_digit byte) number_begins (begin_by_sign byte second))) h

number_begins_by : (byte : ℕ) (second : Option ℕ) → is_digit byte ≡ true → begin_by byte second ≡ number_begins
number_begins_by byte second h =
    ap (λ b. cond b blank_begins (cond (is_name_start byte) name_begins (cond (is_digit byte) number_begins (begin_by_sign byte second)))) (digit_no_blank byte h) ∙ ap (λ b. cond b name_begins (cond (is_digit byte) number_begins (begin_by_sign byte second))) (digit_no_name byte h) ∙ ap (λ b. cond b number_begins (begin_by_sign byte second)) h

first_digit : (ds : List ℕ) → AreDigits ds → 0 < length ds → (first : ℕ) × (rest : List ℕ) × (ds ≡ first ∷ rest) × (is_digit first ≡ true)
first_digit [] all some = absurd (omega (arith, some))
first_digit (first ∷ rest) all some = (first, rest, refl, All-head (λ b. is_digit b ≡ true) first rest all)

match_true : (b : Bool) (P Q : Type 0) → b ≡ true → P → MatchBool b P Q
match_true true P Q e p = p
match_true false P Q e p = absurd (false≢true e)

match_false : (b : Bool) (P Q : Type 0) → b ≡ false → Q → MatchBool b P Q
match_false true P Q e q = absurd (false≢true (sym e))
match_false false P Q e q = q

module _ (bytes : List ℕ) (at : ℕ) where
  begins_one : (first : ℕ) (text : List ℕ) → Stands bytes at (first ∷ text) → begin_at bytes at ≡ begin_by first (slice_get bytes (at + 1))
  unfolding begin_at
  begins_one first text h = ap (λ b. begin_by b (slice_get bytes (at + 1))) (stands_first bytes at first text h)

  begins_two : (first second : ℕ) (text : List ℕ) → Stands bytes at (first ∷ second ∷ text) → begin_at bytes at ≡ begin_by first (Some second)
  begins_two first second text h = begins_one first (second ∷ text) h ∙ ap (begin_by first) (stands_get bytes at (first ∷ second ∷ text) 1 h (omega arith))

  found_as : (begin : Begin) (found : Found) (first : ℕ) (text : List ℕ) → Stands bytes at (first ∷ text) → begin_at bytes at ≡ begin → IsFoundBy begin bytes at found → IsFound bytes at found
  found_as begin found first text h e by = record {
    inside = let room = stands_inside bytes at (first ∷ text) h (omega arith) in omega (arith, room);
    by = subst (λ b. IsFoundBy b bytes at found) (sym e) by;
  }

  ends_as : (lexeme : Lexeme) (next other : ℕ) → next ≡ other → IsLexeme bytes at lexeme next → IsLexeme bytes at lexeme other
  ends_as lexeme next other e h = subst (IsLexeme bytes at lexeme) e h

  pub separator_stands : (separator : ℕ) (text : List ℕ) → IsSeparator separator → Stands bytes at (separator ∷ text) → IsBlank bytes at (at + 1)
  separator_stands separator text is h =
      found_as blank_begins (blank_found (at + 1)) separator text h (begins_one separator text h ∙ blank_begins_by separator (slice_get bytes (at + 1)) (blank_byte separator is)) refl

  name_stands : (word : List ℕ) (separator : ℕ) → IsName word → IsSeparator separator → Stands bytes at (word ++ separator ∷ []) → IsLexeme bytes at (Name word) (at + length word)
  name_stands word separator name is h =
      let front : Stands bytes at (name.first ∷ (name.rest ++ separator ∷ [])) = subst (λ w. Stands bytes at (w ++ separator ∷ [])) name.is h in
      let range : slice_range bytes at (at + length word) ≡ word = stands_range bytes at word (stands_front bytes at word (separator ∷ []) h) in
      found_as name_begins (lexeme_found (Name word) (at + length word)) name.first _ front (begins_one name.first _ front ∙ name_begins_by name.first (slice_get bytes (at + 1)) name.begins)
      (at + length word, stands_run bytes is_name_byte at word separator h name.all (no_name_byte separator is), ap (λ w. lexeme_found (Name w) (at + length word)) (sym range))

  -- digits
  module _ (make : ℕ → Lexeme) (n : ℕ) (digits : List ℕ) (number : IsNumber n digits) (separator : ℕ) (is : IsSeparator separator) where
    digits_found : (from : ℕ) → Stands bytes from (digits ++ separator ∷ []) → IsNumberFound make bytes from (lexeme_found (make n) (from + length digits))
    digits_found from h =
        let range : slice_range bytes from (from + length digits) ≡ digits = stands_range bytes from digits (stands_front bytes from digits (separator ∷ []) h) in
        let few : from + length digits - from ≤ 9 = omega (arith, number.few) in
        let found : number_found make bytes from (from + length digits) ≡ lexeme_found (make n) (from + length digits) =
        ap (λ b. cond b (lexeme_found (make (decimal_value (slice_range bytes from (from + length digits)))) (from + length digits)) syntax_fault) (le-leb (from + length digits - from) 9 few) ∙ ap (λ d. lexeme_found (make (decimal_value d)) (from + length digits)) range ∙ ap (λ m. lexeme_found (make m) (from + length digits)) number.says in
        (from + length digits, stands_run bytes is_digit from digits separator h number.all (no_digit separator is), sym found)

    number_stands : ((found : Found) → IsNumberFound make bytes at found → IsFoundBy number_begins bytes at found) → Stands bytes at (digits ++ separator ∷ []) → IsLexeme bytes at (make n) (at + length digits)
    number_stands by h =
        let front = first_digit digits number.all number.some in
        let stands : Stands bytes at (front.0 ∷ (front.1 ++ separator ∷ [])) = subst (λ w. Stands bytes at (w ++ separator ∷ [])) front.2 h in
        found_as number_begins (lexeme_found (make n) (at + length digits)) front.0 _ stands (begins_one front.0 _ stands ∙ number_begins_by front.0 (slice_get bytes (at + 1)) front.3) (by _ (digits_found at h))

    place_stands : (sign : ℕ) (begin : Begin) → ((byte : ℕ) → is_digit byte ≡ true → begin_by sign (Some byte) ≡ begin) → ((found : Found) → IsNumberFound make bytes (at + 1) found → IsFoundBy begin bytes at found)
        → Stands bytes at (sign ∷ (digits ++ separator ∷ [])) → IsLexeme bytes at (make n) (at + length (sign ∷ digits))
    place_stands sign begin begins by h =
        let front = first_digit digits number.all number.some in
        let stands : Stands bytes at (sign ∷ front.0 ∷ (front.1 ++ separator ∷ [])) = subst (λ w. Stands bytes at (sign ∷ (w ++ separator ∷ []))) front.2 h in
        let end : at + 1 + length digits ≡ at + length (sign ∷ digits) = omega arith in
        ends_as (make n) (at + 1 + length digits) (at + length (sign ∷ digits)) end
        (found_as begin (lexeme_found (make n) (at + 1 + length digits)) sign _ stands (begins_two sign front.0 _ stands ∙ begins front.0 front.3) (by _ (digits_found (at + 1) (stands_back bytes at (sign ∷ []) (digits ++ separator ∷ []) h))))

  -- quotes
  spelled_stands : (make : List ℕ → Lexeme) (closing : ℕ) (begin : Begin) (text : List ℕ) → IsClosing closing → AreBytes text → ((second : Option ℕ) → begin_by closing second ≡ begin) → ((found : Found) → IsSpelledText make closing bytes at found → IsFoundBy begin bytes at found)
      → Stands bytes at (escaped closing text) → IsLexeme bytes at (make text) (at + length (escaped closing text))
  spelled_stands make closing begin text is small begins by h =
      let body : List ℕ = flat_map (escaped_byte closing) text in
      let to : ℕ = at + 1 + length body in
      let found : Found = lexeme_found (make text) (to + 1) in
      let printed : IsPrintedText closing bytes (at + 1) body = printed_text closing bytes (at + 1) text is small (stands_back bytes at (closing ∷ []) (body ++ closing ∷ []) h) in
      let size : length (body ++ closing ∷ []) ≡ length body + 1 = length-append body (closing ∷ []) in
      let end : to + 1 ≡ at + length (escaped closing text) = omega (arith, size) in
      let spells : Spells (slice_range bytes (at + 1) to) text = subst (λ t. Spells t text) (sym printed.text) (printed_spells closing text is small) in
      let closed : IsSpelledFound make (slice_range bytes (at + 1) to) (to + 1) found = inl (text, spells, refl) in
      let of : IsTextOf (IsSpelledFound make (slice_range bytes (at + 1) to) (to + 1)) closing bytes (at + 1) to found =
      match_false (has_bad_byte bytes (at + 1) to) _ _ printed.good (match_true (is_closed closing bytes to) _ _ printed.closed closed) in
      ends_as (make text) (to + 1) (at + length (escaped closing text)) end
      (found_as begin found closing (body ++ closing ∷ []) h (begins_one closing (body ++ closing ∷ []) h ∙ begins (slice_get bytes (at + 1))) (by found (to, printed.run, of)))

  -- slashes
  pattern_begin : (text : List ℕ) → IsPatternText text → Stands bytes at (47 ∷ (text ++ 47 ∷ [])) → begin_at bytes at ≡ pattern_begins
  pattern_begin text pattern h =
      let front : Stands bytes at (47 ∷ pattern.first ∷ (pattern.rest ++ 47 ∷ [])) = subst (λ w. Stands bytes at (47 ∷ (w ++ 47 ∷ []))) pattern.is h in
      begins_two 47 pattern.first (pattern.rest ++ 47 ∷ []) front
      ∙ ap (λ b. cond b block_comment_begins (cond (pattern.first == 47) line_comment_begins pattern_begins)) (ne_eqb pattern.first 42 pattern.no_star)
      ∙ ap (λ b. cond b line_comment_begins pattern_begins) (ne_eqb pattern.first 47 pattern.no_slash)

  pattern_stands : (text : List ℕ) → IsPatternText text → Stands bytes at (47 ∷ (text ++ 47 ∷ [])) → IsLexeme bytes at (Pattern text) (at + length (47 ∷ (text ++ 47 ∷ [])))
  pattern_stands text pattern h =
      let to : ℕ = at + 1 + length text in
      let found : Found = lexeme_found (Pattern text) (to + 1) in
      let printed : IsPrintedText 47 bytes (at + 1) text = ended_text 47 bytes (at + 1) text pattern.safe (stands_back bytes at (47 ∷ []) (text ++ 47 ∷ []) h) in
      let size : length (text ++ 47 ∷ []) ≡ length text + 1 = length-append text (47 ∷ []) in
      let end : to + 1 ≡ at + length (47 ∷ (text ++ 47 ∷ [])) = omega (arith, size) in
      let closed : found ≡ lexeme_found (Pattern (slice_range bytes (at + 1) to)) (to + 1) = ap (λ t. lexeme_found (Pattern t) (to + 1)) (sym printed.text) in
      let of : IsTextOf (λ f. f ≡ lexeme_found (Pattern (slice_range bytes (at + 1) to)) (to + 1)) 47 bytes (at + 1) to found =
      match_false (has_bad_byte bytes (at + 1) to) _ _ printed.good (match_true (is_closed 47 bytes to) _ _ printed.closed closed) in
      ends_as (Pattern text) (to + 1) (at + length (47 ∷ (text ++ 47 ∷ []))) end
      (found_as pattern_begins found 47 (text ++ 47 ∷ []) h (pattern_begin text pattern h) (to, printed.run, of))

  -- `%`
  directive_name : (directive : Directive) → All (λ byte. is_name_byte byte ≡ true) (directive_word directive)
  directive_name Token = All-from_recursion (λ byte. is_name_byte byte ≡ true) (codes "token") (refl, (refl, (refl, (refl, (refl, tt)))))
  directive_name Skip = All-from_recursion (λ byte. is_name_byte byte ≡ true) (codes "skip") (refl, (refl, (refl, (refl, tt))))
  directive_name Start = All-from_recursion (λ byte. is_name_byte byte ≡ true) (codes "start") (refl, (refl, (refl, (refl, (refl, tt)))))
  directive_name Declares = All-from_recursion (λ byte. is_name_byte byte ≡ true) (codes "declares") (refl, (refl, (refl, (refl, (refl, (refl, (refl, (refl, tt))))))))

  directive_begin : (directive : Directive) (separator : ℕ) → Stands bytes at (37 ∷ (directive_word directive ++ separator ∷ [])) → begin_at bytes at ≡ directive_begins
  directive_begin Token separator h = begins_two 37 116 _ h
  directive_begin Skip separator h = begins_two 37 115 _ h
  directive_begin Start separator h = begins_two 37 115 _ h
  directive_begin Declares separator h = begins_two 37 100 _ h

  directive_stands : (directive : Directive) (separator : ℕ) → IsSeparator separator → Stands bytes at (37 ∷ (directive_word directive ++ separator ∷ [])) → IsLexeme bytes at (directive_lexeme directive) (at + length (37 ∷ directive_word directive))
  directive_stands directive separator is h =
      let word : List ℕ = directive_word directive in
      let behind : Stands bytes (at + 1) (word ++ separator ∷ []) = stands_back bytes at (37 ∷ []) (word ++ separator ∷ []) h in
      let end : at + 1 + length word ≡ at + length (37 ∷ word) = omega arith in
      ends_as (directive_lexeme directive) (at + 1 + length word) (at + length (37 ∷ word)) end
      (found_as directive_begins (lexeme_found (directive_lexeme directive) (at + 1 + length word)) 37 (word ++ separator ∷ []) h (directive_begin directive separator h)
      (at + 1 + length word, stands_run bytes is_name_byte (at + 1) word separator behind (directive_name directive) (no_name_byte separator is), inl (directive, stands_range bytes (at + 1) word (stands_front bytes (at + 1) word (separator ∷ []) behind), refl)))

  single_stands : (single : Single) (separator : ℕ) → Stands bytes at (single_word single ++ separator ∷ []) → IsLexeme bytes at (single_lexeme single) (at + length (single_word single))
  single_stands Colon separator h = found_as (single_begins Colon) (lexeme_found (single_lexeme Colon) (at + 1)) 58 (separator ∷ []) h (begins_one 58 (separator ∷ []) h) refl
  single_stands Bar separator h = found_as (single_begins Bar) (lexeme_found (single_lexeme Bar) (at + 1)) 124 (separator ∷ []) h (begins_one 124 (separator ∷ []) h) refl
  single_stands Semicolon separator h = found_as (single_begins Semicolon) (lexeme_found (single_lexeme Semicolon) (at + 1)) 59 (separator ∷ []) h (begins_one 59 (separator ∷ []) h) refl
  single_stands LeftBrace separator h = found_as (single_begins LeftBrace) (lexeme_found (single_lexeme LeftBrace) (at + 1)) 123 (separator ∷ []) h (begins_one 123 (separator ∷ []) h) refl
  single_stands RightBrace separator h = found_as (single_begins RightBrace) (lexeme_found (single_lexeme RightBrace) (at + 1)) 125 (separator ∷ []) h (begins_one 125 (separator ∷ []) h) refl

  -- a printed word is its lexeme, and ends before the separator behind it
  pub printed_stands : {lexeme : Lexeme} {word : List ℕ} (separator : ℕ) → Prints lexeme word → IsSeparator separator → Stands bytes at (word ++ separator ∷ []) → IsLexeme bytes at lexeme (at + length word)
  printed_stands separator (name_printed {word = word} name) is h = name_stands word separator name is h
  printed_stands separator (number_printed {n = n} small) is h = number_stands Number n (decimal n) (printed_number n small) separator is (λ found by. by) h
  printed_stands separator (fold_printed {n = n} small) is h =
      place_stands Fold n (decimal n) (printed_number n small) separator is 36 fold_begins (λ byte d. ap (λ b. cond b fold_begins nothing_begins) d) (λ found by. by) h
  printed_stands separator (number_of_printed {n = n} small) is h =
      place_stands NumberOf n (decimal n) (printed_number n small) separator is 35 number_of_begins (λ byte d. ap (λ b. cond b number_of_begins nothing_begins) d) (λ found by. by) h
  printed_stands separator (quoted_printed {bytes = text} small) is h =
      spelled_stands Quoted 39 quoted_begins text (inl refl) small (λ second. refl) (λ found by. by) (stands_front bytes at (escaped 39 text) (separator ∷ []) h)
  printed_stands separator (text_printed {bytes = text} small) is h =
      spelled_stands Text 34 text_begins text (inr refl) small (λ second. refl) (λ found by. by) (stands_front bytes at (escaped 34 text) (separator ∷ []) h)
  printed_stands separator (pattern_printed {text = text} pattern) is h = pattern_stands text pattern (stands_front bytes at (47 ∷ (text ++ 47 ∷ [])) (separator ∷ []) h)
  printed_stands separator (directive_printed {directive = directive}) is h = directive_stands directive separator is h
  printed_stands separator mark_printed is h =
      found_as mark_begins (lexeme_found Mark (at + 2)) 37 (37 ∷ separator ∷ []) h (begins_two 37 37 (separator ∷ []) h) refl
  printed_stands separator (single_printed {single = single}) is h = single_stands single separator h
