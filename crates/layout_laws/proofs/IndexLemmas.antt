-- Distinct words, and their places.
use Rattle.std.proofs.Common.{◌≡◌, ℕ, zero, suc, ◌+◌, ◌<◌, ◌≤◌, List, [], ◌∷◌, ◌++◌, length, take, Bool, true, false, refl, sym, ap, ◌∙◌, inl, inr, ⊎_elim, arith}
use Rattle.std.specs.Prelude.{◌⊎◌, ◌||◌, not, filter, if◌then◌else◌, Some, slice_get, Contains}
use Rattle.std.specs.Str.{bytes_eq}
use Rattle.std.proofs.lemmas.Bool.{false≢true, cases_lt}
use Rattle.std.proofs.lemmas.List.{get_or-take, length-take-le}
use Rattle.std.proofs.lemmas.Slice.Eq.{bytes_eq-Decides}
use Rattle.std.proofs.lemmas.Option.{none-some, same_Some, slice_get_within, slice_get-get_or, get_or_from_slice_get}
use Rattle.outline_theory.specs.Numbering.{is_one_of, index_of, distinct}
use Rattle.layout_laws.proofs.MemberLemmas.{IsRepeated}

abbrev pub Words : Type 0
Words = List (List ℕ)

pub same_word : (word other : List ℕ) → bytes_eq word other ≡ true → word ≡ other
same_word word other e = (bytes_eq-Decides word other).0 e

pub word_same : (word : List ℕ) → bytes_eq word word ≡ true
word_same word = (bytes_eq-Decides word word).1 refl

-- by the test of the first word
one_of_by : (other word : List ℕ) (words : Words) (b : Bool) → bytes_eq other word ≡ b → is_one_of (other ∷ words) word ≡ (b || is_one_of words word)
one_of_by other word words b e = ap (λ x. x || is_one_of words word) e

index_by : (other word : List ℕ) (words : Words) (b : Bool) → bytes_eq other word ≡ b → index_of (other ∷ words) word ≡ (if b then 0 else index_of words word + 1)
index_by other word words b e = ap (λ x. if x then 0 else index_of words word + 1) e

pub index_first : (word : List ℕ) (words : Words) → index_of (word ∷ words) word ≡ 0
index_first word words = index_by word word words true (word_same word)

-- the first place of a word of the list has it
first_by : (other word : List ℕ) (words : Words) (b : Bool) → bytes_eq other word ≡ b → is_one_of (other ∷ words) word ≡ true
    → (is_one_of words word ≡ true → slice_get words (index_of words word) ≡ Some word) → slice_get (other ∷ words) (index_of (other ∷ words) word) ≡ Some word
first_by other word words true e one rest = rw (index_by other word words true e) (ap Some (same_word other word e))
first_by other word words false e one rest =
    let next : index_of (other ∷ words) word ≡ suc (index_of words word) = index_by other word words false e ∙ omega arith in
    rw (next) (rest (sym (one_of_by other word words false e) ∙ one))

pub at_first : (words : Words) (word : List ℕ) → is_one_of words word ≡ true → slice_get words (index_of words word) ≡ Some word
at_first [] word e = absurd (false≢true e)
at_first (other ∷ words) word e = first_by other word words (bytes_eq other word) refl e (at_first words word)

pub index_within : (words : Words) (word : List ℕ) → is_one_of words word ≡ true → index_of words word < length words
index_within words word e = slice_get_within words (index_of words word) word (at_first words word e)

-- a word at a place is one of the list
one_at_by : (other word : List ℕ) (words : Words) (b : Bool) → bytes_eq other word ≡ b → is_one_of words word ≡ true → is_one_of (other ∷ words) word ≡ true
one_at_by other word words true e one = one_of_by other word words true e
one_at_by other word words false e one = one_of_by other word words false e ∙ one

pub one_at : (words : Words) (word : List ℕ) (i : ℕ) → slice_get words i ≡ Some word → is_one_of words word ≡ true
one_at [] word i e = absurd (none-some word e)
one_at (other ∷ words) word zero e = one_of_by other word words true ((bytes_eq-Decides other word).1 (same_Some other word e))
one_at (other ∷ words) word (suc i) e = one_at_by other word words (bytes_eq other word) refl (one_at words word i e)

pub one_of : (words : Words) (word : List ℕ) → Contains words word → is_one_of words word ≡ true
one_of words word (k, lt, e) = one_at words word k (slice_get-get_or words k word lt ∙ ap Some e)

pub contains : (words : Words) (word : List ℕ) → is_one_of words word ≡ true → Contains words word
contains words word one =
    let found = at_first words word one in
    (index_of words word, slice_get_within words (index_of words word) word found, get_or_from_slice_get words (index_of words word) word word found)

pub one_or_not : (words : Words) (word : List ℕ) → (is_one_of words word ≡ true) ⊎ (is_one_of words word ≡ false)
one_or_not words word = by (is_one_of words word) refl
  where
    by : (b : Bool) → is_one_of words word ≡ b → (is_one_of words word ≡ true) ⊎ (is_one_of words word ≡ false)
    by true e = inl e
    by false e = inr e

-- places in joined lists
append_left_by : (other word : List ℕ) (words more : Words) (b : Bool) → bytes_eq other word ≡ b → is_one_of (other ∷ words) word ≡ true → (is_one_of words word ≡ true → index_of (words ++ more) word ≡ index_of words word)
    → index_of (other ∷ (words ++ more)) word ≡ index_of (other ∷ words) word
append_left_by other word words more true e one rest = index_by other word (words ++ more) true e ∙ sym (index_by other word words true e)
append_left_by other word words more false e one rest =
    index_by other word (words ++ more) false e ∙ ap (λ n. n + 1) (rest (sym (one_of_by other word words false e) ∙ one)) ∙ sym (index_by other word words false e)

pub index_append_left : (words more : Words) (word : List ℕ) → is_one_of words word ≡ true → index_of (words ++ more) word ≡ index_of words word
index_append_left [] more word one = absurd (false≢true one)
index_append_left (other ∷ words) more word one = append_left_by other word words more (bytes_eq other word) refl one (index_append_left words more word)

append_right_by : (other word : List ℕ) (words more : Words) (b : Bool) → bytes_eq other word ≡ b → is_one_of (other ∷ words) word ≡ false → (is_one_of words word ≡ false → index_of (words ++ more) word ≡ length words + index_of more word)
    → index_of (other ∷ (words ++ more)) word ≡ suc (length words) + index_of more word
append_right_by other word words more true e none rest = absurd (false≢true (sym none ∙ one_of_by other word words true e))
append_right_by other word words more false e none rest =
    let later = rest (sym (one_of_by other word words false e) ∙ none) in
    let here : index_of (other ∷ (words ++ more)) word ≡ index_of (words ++ more) word + 1 = index_by other word (words ++ more) false e in
    omega (arith, later, here)

pub index_append_right : (words more : Words) (word : List ℕ) → is_one_of words word ≡ false → index_of (words ++ more) word ≡ length words + index_of more word
index_append_right [] more word none = omega arith
index_append_right (other ∷ words) more word none = append_right_by other word words more (bytes_eq other word) refl none (index_append_right words more word)

-- the place of a word is the first that has it
least_by : (other word : List ℕ) (words : Words) (i : ℕ) (b : Bool) → bytes_eq other word ≡ b → index_of words word ≤ i → index_of (other ∷ words) word ≤ suc i
least_by other word words i true e h = let is = index_by other word words true e in omega (arith, is)
least_by other word words i false e h = let is : index_of (other ∷ words) word ≡ index_of words word + 1 = index_by other word words false e in omega (arith, is, h)

index_least : (words : Words) (word : List ℕ) (i : ℕ) → slice_get words i ≡ Some word → index_of words word ≤ i
index_least [] word i e = absurd (none-some word e)
index_least (other ∷ words) word zero e = let is = index_by other word words true ((bytes_eq-Decides other word).1 (same_Some other word e)) in omega (arith, is)
index_least (other ∷ words) word (suc i) e = least_by other word words i (bytes_eq other word) refl (index_least words word i e)

-- the only place of a word that doesn't stand there again
pub index_once : (words : Words) → ((word : List ℕ) → IsRepeated words word → ⊥) → (word : List ℕ) (i : ℕ) → slice_get words i ≡ Some word → index_of words word ≡ i
index_once words once word i e = ⊎_elim
    (λ less. absurd (once word (record {
      at = i;
      here = e;
      before =
          let within = slice_get_within words i word e in
          let taken : length (take i words) ≡ i = length-take-le i words (omega (arith, within)) in
          (index_of words word, omega (arith, taken, less), get_or-take i words (index_of words word) word less ∙ get_or_from_slice_get words (index_of words word) word word (at_first words word (one_at words word i e)));
    })))
    (λ least. let most = index_least words word i e in omega (arith, least, most))
    (cases_lt (index_of words word) i)

-- ---- filters

abbrev pub Test : Type 0
Test = List ℕ → Bool

pub filter_by : (p : Test) (word : List ℕ) (words : Words) (b : Bool) → p word ≡ b → filter p (word ∷ words) ≡ (if b then word ∷ filter p words else filter p words)
filter_by p word words b e = ap (λ x. if x then word ∷ filter p words else filter p words) e

kept_by : (p : Test) (other word : List ℕ) (words : Words) (b c : Bool) → p other ≡ b → bytes_eq other word ≡ c → p word ≡ true → is_one_of (filter p words) word ≡ is_one_of words word
    → is_one_of (filter p (other ∷ words)) word ≡ is_one_of (other ∷ words) word
kept_by p other word words true c e f passes rest =
    ap (λ x. is_one_of (if x then other ∷ filter p words else filter p words) word) e ∙ ap (λ x. bytes_eq other word || x) rest
kept_by p other word words false true e f passes rest = absurd (false≢true (sym e ∙ ap p (same_word other word f) ∙ passes))
kept_by p other word words false false e f passes rest =
    ap (λ x. is_one_of (if x then other ∷ filter p words else filter p words) word) e ∙ rest ∙ sym (one_of_by other word words false f)

-- a word that passes a test is kept by a filter
pub one_of_filter : (p : Test) (words : Words) (word : List ℕ) → p word ≡ true → is_one_of (filter p words) word ≡ is_one_of words word
one_of_filter p [] word passes = refl
one_of_filter p (other ∷ words) word passes = kept_by p other word words (p other) (bytes_eq other word) refl refl passes (one_of_filter p words word passes)

distinct_by : (other word : List ℕ) (words : Words) (b : Bool) → bytes_eq other word ≡ b → is_one_of (distinct words) word ≡ is_one_of words word → is_one_of (distinct (other ∷ words)) word ≡ is_one_of (other ∷ words) word
distinct_by other word words true e rest = one_of_by other word _ true e ∙ sym (one_of_by other word words true e)
distinct_by other word words false e rest =
    one_of_by other word _ false e ∙ one_of_filter (λ v. not (bytes_eq other v)) (distinct words) word (ap not e) ∙ rest ∙ sym (one_of_by other word words false e)

-- the distinct words are the same words
pub one_of_distinct : (words : Words) (word : List ℕ) → is_one_of (distinct words) word ≡ is_one_of words word
one_of_distinct [] word = refl
one_of_distinct (other ∷ words) word = distinct_by other word words (bytes_eq other word) refl (one_of_distinct words word)

-- a filter does nothing twice
twice_by : (p : Test) (word : List ℕ) (words : Words) (b : Bool) → p word ≡ b → filter p (filter p words) ≡ filter p words → filter p (filter p (word ∷ words)) ≡ filter p (word ∷ words)
twice_by p word words true e rest =
    ap (filter p) (filter_by p word words true e) ∙ filter_by p word (filter p words) true e ∙ ap (λ l. word ∷ l) rest ∙ sym (filter_by p word words true e)
twice_by p word words false e rest = ap (filter p) (filter_by p word words false e) ∙ rest ∙ sym (filter_by p word words false e)

filter_twice : (p : Test) (words : Words) → filter p (filter p words) ≡ filter p words
filter_twice p [] = refl
filter_twice p (word ∷ words) = twice_by p word words (p word) refl (filter_twice p words)

-- a word that stands twice at the front
pub distinct_twice : (word : List ℕ) (words : Words) → distinct (word ∷ word ∷ words) ≡ distinct (word ∷ words)
distinct_twice word words =
    let p : Test = λ other. not (bytes_eq word other) in
    ap (λ l. word ∷ l) (filter_by p word (filter p (distinct words)) false (ap not (word_same word)) ∙ filter_twice p (distinct words))
