-- The names of leaves with one more behind.
use Rattle.std.proofs.Common.{◌≡◌, ◌≢◌, ℕ, suc, ◌+◌, List, [], ◌∷◌, ◌++◌, length, map, Bool, true, false, refl, sym, ap, subst, ◌∙◌, arith}
use Rattle.std.specs.Prelude.{if◌then◌else◌, sum_by}
use Rattle.std.specs.Str.{bytes_eq}
use Rattle.std.proofs.lemmas.Bool.{false≢true}
use Rattle.std.proofs.lemmas.List.{append-nil, append_assoc, map-append, length_push}
use Rattle.std.proofs.lemmas.List.Elements.{filter-append}
use Rattle.std.proofs.lemmas.List.Sums.{sum_by-cons}
use Rattle.std.proofs.lemmas.Slice.Eq.{bytes_eq-Decides}
use Rattle.grammar_data.specs.declared.token.Token.{Token as TextToken}
use Rattle.outline_theory.specs.Numbering.{is_one_of, index_of, distinct}
use Rattle.numbering_theory.specs.Places.{with_word, with_words}
use Rattle.numbering_theory.proofs.PlaceLemmas.{one_of_by}
use Rattle.numbering_theory.proofs.WordPlaces.{at_first, with_new, with_old}
use Rattle.numbering_theory.proofs.DistinctLemmas.{HasOnePlace, distinct_place, noted_alone}
use Rattle.numbering_theory.proofs.MemberLemmas.{one_of_distinct}
use Rattle.translation_theory.specs.TokenTexts.{bytes_of, texts_of}
use Rattle.translation_theory.specs.DeclaredNames.{Row, leaves_with, first_line, row_of, rows_of, noted, NotedLaw, TimesLaw}

-- ---- equal words

pub same_back : (one other : List ℕ) (b : Bool) → bytes_eq one other ≡ b → bytes_eq other one ≡ b
same_back one other true e = (bytes_eq-Decides other one).1 (sym ((bytes_eq-Decides one other).0 e))
same_back one other false e = back_by (bytes_eq other one) refl
  where
    back_by : (c : Bool) → bytes_eq other one ≡ c → c ≡ false
    back_by true f = absurd (false≢true (sym e ∙ (bytes_eq-Decides one other).1 (sym ((bytes_eq-Decides other one).0 f))))
    back_by false f = refl

-- ---- the distinct words with one more behind

with_words-append : (base xs ys : List (List ℕ)) → with_words base (xs ++ ys) ≡ with_words (with_words base xs) ys
with_words-append base [] ys = refl
with_words-append base (x ∷ xs) ys = with_words-append (with_word base x) xs ys

pub distinct-push : (words : List (List ℕ)) (word : List ℕ) → distinct (words ++ word ∷ []) ≡ with_word (distinct words) word
distinct-push words word =
    sym (noted_alone (words ++ word ∷ [])) ∙ with_words-append [] words (word ∷ []) ∙ ap (λ base. with_word base word) (noted_alone words)

more_by : (first word : List ℕ) (words : List (List ℕ)) (b : Bool) → is_one_of words word ≡ b → bytes_eq first word ≡ false → with_word (first ∷ words) word ≡ first ∷ with_word words word
more_by first word words true one apart =
    sym (with_old (first ∷ words) word (one_of_by first word words false apart ∙ one)) ∙ ap (λ l. first ∷ l) (with_old words word one)
more_by first word words false none apart =
    sym (with_new (first ∷ words) word (one_of_by first word words false apart ∙ none)) ∙ ap (λ l. first ∷ l) (with_new words word none)

-- ---- the leaves with some bytes

none_by : (text : List ℕ) (leaf : TextToken) (leaves : List TextToken) (bytes : List ℕ) (b : Bool) → bytes_eq (bytes_of text leaf) bytes ≡ b → is_one_of (texts_of text (leaf ∷ leaves)) bytes ≡ false → (is_one_of (texts_of text leaves) bytes ≡ false → leaves_with text leaves bytes ≡ []) → leaves_with text (leaf ∷ leaves) bytes ≡ []
none_by text leaf leaves bytes true e none rest =
    absurd (false≢true (sym none ∙ one_of_by (bytes_of text leaf) bytes (texts_of text leaves) true e))
none_by text leaf leaves bytes false e none rest =
    ap (λ x. if x then leaf ∷ leaves_with text leaves bytes else leaves_with text leaves bytes) e ∙ rest (sym (one_of_by (bytes_of text leaf) bytes (texts_of text leaves) false e) ∙ none)

pub no_leaves : (text : List ℕ) (leaves : List TextToken) (bytes : List ℕ) → is_one_of (texts_of text leaves) bytes ≡ false → leaves_with text leaves bytes ≡ []
no_leaves text [] bytes none = refl
no_leaves text (leaf ∷ leaves) bytes none = none_by text leaf leaves bytes (bytes_eq (bytes_of text leaf) bytes) refl none (no_leaves text leaves bytes)

not_none : (leaf : TextToken) (leaves : List TextToken) → leaf ∷ leaves ≢ []
not_none leaf leaves e = cc

some_by : (text : List ℕ) (leaf : TextToken) (leaves : List TextToken) (bytes : List ℕ) (b : Bool) → bytes_eq (bytes_of text leaf) bytes ≡ b → is_one_of (texts_of text (leaf ∷ leaves)) bytes ≡ true → (is_one_of (texts_of text leaves) bytes ≡ true → leaves_with text leaves bytes ≢ []) → leaves_with text (leaf ∷ leaves) bytes ≢ []
some_by text leaf leaves bytes true e one rest none =
    not_none leaf (leaves_with text leaves bytes) (sym (ap (λ x. if x then leaf ∷ leaves_with text leaves bytes else leaves_with text leaves bytes) e) ∙ none)
some_by text leaf leaves bytes false e one rest none =
    rest (sym (one_of_by (bytes_of text leaf) bytes (texts_of text leaves) false e) ∙ one) (sym (ap (λ x. if x then leaf ∷ leaves_with text leaves bytes else leaves_with text leaves bytes) e) ∙ none)

pub some_leaves : (text : List ℕ) (leaves : List TextToken) (bytes : List ℕ) → is_one_of (texts_of text leaves) bytes ≡ true → leaves_with text leaves bytes ≢ []
some_leaves text [] bytes one = absurd (false≢true one)
some_leaves text (leaf ∷ leaves) bytes one = some_by text leaf leaves bytes (bytes_eq (bytes_of text leaf) bytes) refl one (some_leaves text leaves bytes)

first_line-append : (leaves more : List TextToken) → leaves ≢ [] → first_line (leaves ++ more) ≡ first_line leaves
first_line-append [] more some = absurd (some refl)
first_line-append (leaf ∷ leaves) more some = refl

-- ---- rows

abbrev row_with : List ℕ → List TextToken → Row
row_with bytes leaves = record { text = bytes; line = first_line leaves; times = length leaves }

same_fields : (bytes : List ℕ) {line other_line times other_times : ℕ} → line ≡ other_line → times ≡ other_times → ◌≡◌ {A = Row} (record { text = bytes; line = line; times = times }) (record { text = bytes; line = other_line; times = other_times })
same_fields bytes lines counts = λ i. record { text = bytes; line = lines i; times = counts i }

module _ (text : List ℕ) (leaves : List TextToken) (leaf : TextToken) where
  abbrev bytes_here : List ℕ
  bytes_here = bytes_of text leaf

  abbrev more_leaves : List TextToken
  more_leaves = leaves ++ leaf ∷ []

  with_leaf : (bytes : List ℕ) (b : Bool) → bytes_eq bytes_here bytes ≡ b → leaves_with text more_leaves bytes ≡ leaves_with text leaves bytes ++ (if b then leaf ∷ [] else [])
  with_leaf bytes b e =
      filter-append (λ l. bytes_eq (bytes_of text l) bytes) leaves (leaf ∷ []) ∙ ap (λ x. leaves_with text leaves bytes ++ (if x then leaf ∷ [] else [])) e

  other_row : (bytes : List ℕ) → bytes_eq bytes_here bytes ≡ false → row_of text more_leaves bytes ≡ row_of text leaves bytes
  other_row bytes apart = ap (row_with bytes) (with_leaf bytes false apart ∙ append-nil (leaves_with text leaves bytes))

  same_row : (bytes : List ℕ) → bytes_eq bytes_here bytes ≡ true → leaves_with text leaves bytes ≢ [] → row_of text more_leaves bytes ≡ record { text = bytes; line = first_line (leaves_with text leaves bytes); times = length (leaves_with text leaves bytes) + 1 }
  same_row bytes same some =
      ap (row_with bytes) (with_leaf bytes true same) ∙ same_fields bytes (first_line-append (leaves_with text leaves bytes) (leaf ∷ []) some) (length_push (leaves_with text leaves bytes) leaf)

  new_row : leaves_with text leaves bytes_here ≡ [] → row_of text more_leaves bytes_here ≡ record { text = bytes_here; line = leaf.place.line; times = 1 }
  new_row none =
      ap (row_with bytes_here) (with_leaf bytes_here true ((bytes_eq-Decides bytes_here bytes_here).1 refl) ∙ ap (λ l. l ++ leaf ∷ []) none)

  others_by : (first : List ℕ) (words : List (List ℕ)) (b : Bool) → bytes_eq bytes_here first ≡ b → is_one_of (first ∷ words) bytes_here ≡ false → (is_one_of words bytes_here ≡ false → map (row_of text more_leaves) words ≡ map (row_of text leaves) words) → map (row_of text more_leaves) (first ∷ words) ≡ map (row_of text leaves) (first ∷ words)
  others_by first words true same none rest =
      absurd (false≢true (sym none ∙ one_of_by first bytes_here words true (same_back bytes_here first true same)))
  others_by first words false apart none rest =
      ap (λ r. r ∷ map (row_of text more_leaves) words) (other_row first apart) ∙ ap (λ l. row_of text leaves first ∷ l) (rest (sym (one_of_by first bytes_here words false (same_back bytes_here first false apart)) ∙ none))

  others : (words : List (List ℕ)) → is_one_of words bytes_here ≡ false → map (row_of text more_leaves) words ≡ map (row_of text leaves) words
  others [] none = refl
  others (first ∷ words) none = others_by first words (bytes_eq bytes_here first) refl none (others words)

  apart_by : (words : List (List ℕ)) (b : Bool) → is_one_of words bytes_here ≡ b → HasOnePlace (bytes_here ∷ words) → b ≡ false
  apart_by words true one once =
      let e : 0 ≡ suc (index_of words bytes_here) = once bytes_here 0 (suc (index_of words bytes_here)) refl (at_first words bytes_here one) in
      absurd (omega (arith, e))
  apart_by words false none once = refl

  apart_from : (first : List ℕ) (words : List (List ℕ)) → first ≡ bytes_here → HasOnePlace (first ∷ words) → is_one_of words bytes_here ≡ false
  apart_from first words same once =
      apart_by words (is_one_of words bytes_here) refl (subst (λ w. HasOnePlace (w ∷ words)) same once)

  behind : (first : List ℕ) (words : List (List ℕ)) → HasOnePlace (first ∷ words) → HasOnePlace words
  behind first words once word i j here there = let e = once word (suc i) (suc j) here there in omega (arith, e)

  abbrev IsNoted : List (List ℕ) → Type 0
  IsNoted words = map (row_of text more_leaves) (with_word words bytes_here) ≡ noted (map (row_of text leaves) words) bytes_here leaf.place.line

  noted_by : (first : List ℕ) (words : List (List ℕ)) (b : Bool) → bytes_eq bytes_here first ≡ b → HasOnePlace (first ∷ words) → (is_one_of (first ∷ words) bytes_here ≡ true → leaves_with text leaves bytes_here ≢ []) → (bytes_eq bytes_here first ≡ false → IsNoted words) → IsNoted (first ∷ words)
  noted_by first words true same once some rest =
      let back : bytes_eq first bytes_here ≡ true = same_back bytes_here first true same in
      let one : is_one_of (first ∷ words) bytes_here ≡ true = one_of_by first bytes_here words true back in
      let equal : bytes_here ≡ first = (bytes_eq-Decides bytes_here first).0 same in
      let here = same_row first same (subst (λ w. leaves_with text leaves w ≢ []) equal (some one)) in
      ap (map (row_of text more_leaves)) (sym (with_old (first ∷ words) bytes_here one)) ∙ ap (λ r. r ∷ map (row_of text more_leaves) words) here ∙ ap (λ l. record { text = first; line = first_line (leaves_with text leaves first); times = length (leaves_with text leaves first) + 1 } ∷ l) (others words (apart_from first words (sym equal) once)) ∙ sym (ap (λ x. if x then record { text = first; line = first_line (leaves_with text leaves first); times = length (leaves_with text leaves first) + 1 } ∷ map (row_of text leaves) words else row_of text leaves first ∷ noted (map (row_of text leaves) words) bytes_here leaf.place.line) same)
  noted_by first words false apart once some rest =
      ap (map (row_of text more_leaves)) (more_by first bytes_here words (is_one_of words bytes_here) refl (same_back bytes_here first false apart)) ∙ ap (λ r. r ∷ map (row_of text more_leaves) (with_word words bytes_here)) (other_row first apart) ∙ ap (λ l. row_of text leaves first ∷ l) (rest apart) ∙ sym (ap (λ x. if x then record { text = first; line = first_line (leaves_with text leaves first); times = length (leaves_with text leaves first) + 1 } ∷ map (row_of text leaves) words else row_of text leaves first ∷ noted (map (row_of text leaves) words) bytes_here leaf.place.line) apart)

  noted_words : (words : List (List ℕ)) → HasOnePlace words → (is_one_of words bytes_here ≡ true → leaves_with text leaves bytes_here ≢ []) → (is_one_of words bytes_here ≡ false → leaves_with text leaves bytes_here ≡ []) → IsNoted words
  noted_words [] once some none = ap (λ r. r ∷ []) (new_row (none refl))
  noted_words (first ∷ words) once some none =
      noted_by first words (bytes_eq bytes_here first) refl once some
      (λ apart.
      let same : is_one_of (first ∷ words) bytes_here ≡ is_one_of words bytes_here = one_of_by first bytes_here words false (same_back bytes_here first false apart) in
      noted_words words (behind first words once) (λ one. some (same ∙ one)) (λ no. none (same ∙ no)))

pub one_noted : NotedLaw
unfolding rows_of
one_noted text leaves leaf =
    let words : List (List ℕ) = texts_of text leaves in
    let bytes : List ℕ = bytes_of text leaf in
    let known = one_of_distinct words bytes in
    ap (λ l. map (row_of text (leaves ++ leaf ∷ [])) (distinct l)) (map-append (bytes_of text) leaves (leaf ∷ [])) ∙ ap (map (row_of text (leaves ++ leaf ∷ []))) (distinct-push words bytes) ∙ noted_words text leaves leaf (distinct words) (distinct_place words) (λ one. some_leaves text leaves bytes (sym known ∙ one)) (λ none. no_leaves text leaves bytes (sym known ∙ none))

-- ---- each leaf is counted once

abbrev count_of : List Row → ℕ
count_of rows = sum_by (λ (row : Row). row.times) rows

count_first : (row : Row) (rows : List Row) → count_of (row ∷ rows) ≡ row.times + count_of rows
count_first row rows = sum_by-cons (λ (r : Row). r.times) row rows

count_by : (row : Row) (rows : List Row) (bytes : List ℕ) (line : ℕ) (b : Bool) → bytes_eq bytes row.text ≡ b → count_of (noted rows bytes line) ≡ count_of rows + 1 → count_of (noted (row ∷ rows) bytes line) ≡ count_of (row ∷ rows) + 1
count_by row rows bytes line true e rest =
    let here : count_of (noted (row ∷ rows) bytes line) ≡ row.times + 1 + count_of rows = ap (λ x. count_of (if x then record { text = row.text; line = row.line; times = row.times + 1 } ∷ rows else row ∷ noted rows bytes line)) e ∙ count_first (record { text = row.text; line = row.line; times = row.times + 1 }) rows in
    let all : count_of (row ∷ rows) ≡ row.times + count_of rows = count_first row rows in
    omega (arith, here, all)
count_by row rows bytes line false e rest =
    let here : count_of (noted (row ∷ rows) bytes line) ≡ row.times + count_of (noted rows bytes line) = ap (λ x. count_of (if x then record { text = row.text; line = row.line; times = row.times + 1 } ∷ rows else row ∷ noted rows bytes line)) e ∙ count_first row (noted rows bytes line) in
    let all : count_of (row ∷ rows) ≡ row.times + count_of rows = count_first row rows in
    omega (arith, here, all, rest)

count-noted : (rows : List Row) (bytes : List ℕ) (line : ℕ) → count_of (noted rows bytes line) ≡ count_of rows + 1
count-noted [] bytes line = omega arith
count-noted (row ∷ rows) bytes line = count_by row rows bytes line (bytes_eq bytes row.text) refl (count-noted rows bytes line)

counted_from : (text : List ℕ) (done rest : List TextToken) → count_of (rows_of text done) ≡ length done → count_of (rows_of text (done ++ rest)) ≡ length (done ++ rest)
counted_from text done [] counted =
    subst (λ l. count_of (rows_of text l) ≡ length l) (sym (append-nil done)) counted
counted_from text done (leaf ∷ rest) counted =
    let more = count-noted (rows_of text done) (bytes_of text leaf) leaf.place.line in
    let size = length_push done leaf in
    let next : count_of (rows_of text (done ++ leaf ∷ [])) ≡ length (done ++ leaf ∷ []) = ap count_of (one_noted text done leaf) ∙ omega (arith, more, size, counted) in
    subst (λ l. count_of (rows_of text l) ≡ length l) (append_assoc done (leaf ∷ []) rest) (counted_from text (done ++ leaf ∷ []) rest next)

pub counted : TimesLaw
unfolding rows_of
counted text leaves = counted_from text [] leaves refl
