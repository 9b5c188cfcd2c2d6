-- Words noted in turn are the distinct ones among them.
use Rattle.std.proofs.Common.{◌≡◌, ℕ, zero, suc, List, [], ◌∷◌, ◌++◌, Bool, true, false, refl, sym, ap, subst, ◌∙◌}
use Rattle.std.specs.Prelude.{◌||◌, ◌&&◌, not, if◌then◌else◌, filter, Contains, slice_get, Some, take}
use Rattle.std.specs.Str.{bytes_eq}
use Rattle.std.proofs.lemmas.Bool.{false≢true}
use Rattle.std.proofs.lemmas.List.{append_assoc, append-nil}
use Rattle.std.proofs.lemmas.List.Folds.{list_any-append}
use Rattle.std.proofs.lemmas.Slice.Eq.{bytes_eq-Decides}
use Rattle.std.proofs.lemmas.Option.{none-some, same_Some, slice_get_within, get_or_from_slice_get}
use Rattle.outline_data.specs.declared.outline.Word.{Word}
use Rattle.outline_theory.specs.Words.{texts}
use Rattle.outline_theory.specs.LineFaults.{StandsAgain}
use Rattle.outline_theory.specs.Numbering.{is_one_of, index_of, distinct}
use Rattle.numbering_theory.proofs.WordPlaces.{at_first, one_at}
use Rattle.numbering_theory.specs.Places.{with_words}

abbrev Test : Type 0
Test = List ℕ → Bool

-- a filter by the test of the first word
filter_by : (p : Test) (word : List ℕ) (words : List (List ℕ)) (b : Bool) → p word ≡ b → filter p (word ∷ words) ≡ (if b then word ∷ filter p words else filter p words)
filter_by p word words b e = ap (λ x. if x then word ∷ filter p words else filter p words) e

same_by : (p q : Test) (word : List ℕ) (words : List (List ℕ)) (b : Bool) → q word ≡ b → p word ≡ q word → filter p words ≡ filter q words → filter p (word ∷ words) ≡ filter q (word ∷ words)
same_by p q word words true e here rest = filter_by p word words true (here ∙ e) ∙ ap (λ l. word ∷ l) rest ∙ sym (filter_by q word words true e)
same_by p q word words false e here rest = filter_by p word words false (here ∙ e) ∙ rest ∙ sym (filter_by q word words false e)

filter_same : (p q : Test) (words : List (List ℕ)) → ((word : List ℕ) → p word ≡ q word) → filter p words ≡ filter q words
filter_same p q [] h = refl
filter_same p q (word ∷ words) h = same_by p q word words (q word) refl (h word) (filter_same p q words h)

abbrev both : Test → Test → Test
both p q word = q word && p word

twice_by : (p q : Test) (word : List ℕ) (words : List (List ℕ)) (b c : Bool) → q word ≡ b → p word ≡ c → filter p (filter q words) ≡ filter (both p q) words → filter p (filter q (word ∷ words)) ≡ filter (both p q) (word ∷ words)
twice_by p q word words true true e f rest =
    ap (filter p) (filter_by q word words true e) ∙ filter_by p word (filter q words) true f ∙ ap (λ l. word ∷ l) rest ∙ sym (filter_by (both p q) word words true (ap (λ x. x && p word) e ∙ f))
twice_by p q word words true false e f rest =
    ap (filter p) (filter_by q word words true e) ∙ filter_by p word (filter q words) false f ∙ rest ∙ sym (filter_by (both p q) word words false (ap (λ x. x && p word) e ∙ f))
twice_by p q word words false c e f rest =
    ap (filter p) (filter_by q word words false e) ∙ rest ∙ sym (filter_by (both p q) word words false (ap (λ x. x && p word) e))

filter_twice : (p q : Test) (words : List (List ℕ)) → filter p (filter q words) ≡ filter (both p q) words
filter_twice p q [] = refl
filter_twice p q (word ∷ words) = twice_by p q word words (q word) (p word) refl refl (filter_twice p q words)

and_swap : (a b : Bool) → (a && b) ≡ (b && a)
and_swap true true = refl
and_swap true false = refl
and_swap false true = refl
and_swap false false = refl

filter_swap : (p q : Test) (words : List (List ℕ)) → filter p (filter q words) ≡ filter q (filter p words)
filter_swap p q words =
    filter_twice p q words ∙ filter_same (both p q) (both q p) words (λ word. and_swap (q word) (p word)) ∙ sym (filter_twice q p words)

-- another word than this one
abbrev other_than : List ℕ → Test
other_than word other = not (bytes_eq word other)

weaker_by : (p : Test) (word other : List ℕ) (b c : Bool) → bytes_eq word other ≡ b → p other ≡ c → p word ≡ false → both p (other_than word) other ≡ p other
weaker_by p word other true c e f fails =
    let same : word ≡ other = (bytes_eq-Decides word other).0 e in
    ap (λ x. not x && p other) e ∙ sym (sym (ap p same) ∙ fails)
weaker_by p word other false c e f fails = ap (λ x. not x && p other) e

drops : (p : Test) (word : List ℕ) (words : List (List ℕ)) → p word ≡ false → filter p (filter (other_than word) words) ≡ filter p words
drops p word words fails =
    filter_twice p (other_than word) words ∙ filter_same (both p (other_than word)) p words (λ other. weaker_by p word other (bytes_eq word other) (p other) refl refl fails)

-- the distinct words that pass a test are those of the words that pass it
distinct_by : (p : Test) (word : List ℕ) (words : List (List ℕ)) (b : Bool) → p word ≡ b → filter p (distinct words) ≡ distinct (filter p words) → filter p (distinct (word ∷ words)) ≡ distinct (filter p (word ∷ words))
distinct_by p word words true e rest =
    filter_by p word (filter (other_than word) (distinct words)) true e ∙ ap (λ l. word ∷ l) (filter_swap p (other_than word) (distinct words) ∙ ap (filter (other_than word)) rest) ∙ ap distinct (sym (filter_by p word words true e))
distinct_by p word words false e rest =
    filter_by p word (filter (other_than word) (distinct words)) false e ∙ drops p word (distinct words) e ∙ rest ∙ ap distinct (sym (filter_by p word words false e))

distinct_filter : (p : Test) (words : List (List ℕ)) → filter p (distinct words) ≡ distinct (filter p words)
distinct_filter p [] = refl
distinct_filter p (word ∷ words) = distinct_by p word words (p word) refl (distinct_filter p words)

-- none of the list
abbrev none_of : List (List ℕ) → Test
none_of base word = not (is_one_of base word)

or_false : (b : Bool) → (b || false) ≡ b
or_false true = refl
or_false false = refl

not_or : (a b : Bool) → not (a || b) ≡ (not a && not b)
not_or true b = refl
not_or false b = refl

none_of-push : (base : List (List ℕ)) (word other : List ℕ) → none_of (base ++ word ∷ []) other ≡ both (other_than word) (none_of base) other
none_of-push base word other =
    ap not (list_any-append (λ w. bytes_eq w other) base (word ∷ []) ∙ ap (λ b. is_one_of base other || b) (or_false (bytes_eq word other))) ∙ not_or (is_one_of base other) (bytes_eq word other)

-- words noted behind others
noted_by : (base : List (List ℕ)) (word : List ℕ) (words : List (List ℕ)) (b : Bool) → is_one_of base word ≡ b
    → ((next : List (List ℕ)) → with_words next words ≡ next ++ distinct (filter (none_of next) words)) → with_words base (word ∷ words) ≡ base ++ distinct (filter (none_of base) (word ∷ words))
noted_by base word words true e rest =
    ap (λ b. with_words (if b then base else base ++ word ∷ []) words) e ∙ rest base ∙ ap (λ l. base ++ distinct l) (sym (filter_by (none_of base) word words false (ap not e)))
noted_by base word words false e rest =
    ap (λ b. with_words (if b then base else base ++ word ∷ []) words) e ∙ rest (base ++ word ∷ []) ∙ append_assoc base (word ∷ []) (distinct (filter (none_of (base ++ word ∷ [])) words)) ∙ ap (λ l. base ++ word ∷ l) (ap distinct (filter_same (none_of (base ++ word ∷ [])) (both (other_than word) (none_of base)) words (none_of-push base word) ∙ sym (filter_twice (other_than word) (none_of base) words)) ∙ sym (distinct_filter (other_than word) (filter (none_of base) words))) ∙ ap (λ l. base ++ distinct l) (sym (filter_by (none_of base) word words true (ap not e)))

pub noted : (base words : List (List ℕ)) → with_words base words ≡ base ++ distinct (filter (λ word. not (is_one_of base word)) words)
noted base [] = sym (append-nil base)
noted base (word ∷ words) = noted_by base word words (is_one_of base word) refl (λ next. noted next words)

all_pass : (words : List (List ℕ)) → filter (none_of []) words ≡ words
all_pass [] = refl
all_pass (word ∷ words) = ap (λ l. word ∷ l) (all_pass words)

pub noted_alone : (words : List (List ℕ)) → with_words [] words ≡ distinct words
noted_alone words = noted [] words ∙ ap distinct (all_pass words)

-- a word that is found stands in the list
pub contains : (words : List (List ℕ)) (word : List ℕ) → is_one_of words word ≡ true → Contains words word
contains words word one =
    let found = at_first words word one in
    (index_of words word, slice_get_within words (index_of words word) word found, get_or_from_slice_get words (index_of words word) word word found)

not_one_of : (words : List (List ℕ)) (word : List ℕ) (b : Bool) → is_one_of words word ≡ b → ¬ (Contains words word) → b ≡ false
not_one_of words word true e none = absurd (none (contains words word e))
not_one_of words word false e none = refl

-- words of which none stands again are noted as they are
abbrev NoneAgain : List (List ℕ) → List Word → Type 0
NoneAgain base words = (at : ℕ) (word : Word) → slice_get words at ≡ Some word → ¬ (Contains (base ++ texts (take at words)) word.bytes)

none_again_behind : (base : List (List ℕ)) (word : Word) (words : List Word) → NoneAgain base (word ∷ words) → NoneAgain (base ++ word.bytes ∷ []) words
none_again_behind base word words none at other here again =
    none (suc at) other here (subst (λ l. Contains l other.bytes) (append_assoc base (word.bytes ∷ []) (texts (take at words))) again)

noted_again : (base : List (List ℕ)) (words : List Word) → NoneAgain base words → with_words base (texts words) ≡ base ++ texts words
noted_again base [] none = sym (append-nil base)
noted_again base (word ∷ words) none =
    let new : is_one_of base word.bytes ≡ false = not_one_of base word.bytes (is_one_of base word.bytes) refl (λ again. none 0 word refl (subst (λ l. Contains l word.bytes) (sym (append-nil base)) again)) in
    ap (λ b. with_words (if b then base else base ++ word.bytes ∷ []) (texts words)) new ∙ noted_again (base ++ word.bytes ∷ []) words (none_again_behind base word words none) ∙ append_assoc base (word.bytes ∷ []) (texts words)

pub noted_once : (words : List Word) → ((word : Word) → ¬ (StandsAgain words word)) → with_words [] (texts words) ≡ texts words
noted_once words none =
    noted_again [] words (λ at word here again. none word (record { at = at; here = here; before = again }))

-- no word stands twice
abbrev IsUnique : List (List ℕ) → Type 0
IsUnique [] = Unit {0}
IsUnique (word ∷ words) = (is_one_of words word ≡ false) × IsUnique words

no_part : (a b : Bool) → (a || b) ≡ false → (a ≡ false) × (b ≡ false)
no_part true b e = absurd (false≢true (sym e))
no_part false b e = (refl, e)

not_back : (word first : List ℕ) (b : Bool) → bytes_eq first word ≡ b → bytes_eq word first ≡ false → b ≡ false
not_back word first true e apart = absurd (false≢true (sym apart ∙ (bytes_eq-Decides word first).1 (sym ((bytes_eq-Decides first word).0 e))))
not_back word first false e apart = refl

-- a filter leaves no word that wasn't there
left_out_by : (p : Test) (first word : List ℕ) (words : List (List ℕ)) (b : Bool) → p first ≡ b → is_one_of (first ∷ words) word ≡ false → (is_one_of words word ≡ false → is_one_of (filter p words) word ≡ false) → is_one_of (filter p (first ∷ words)) word ≡ false
left_out_by p first word words true e none rest =
    let parts = no_part (bytes_eq first word) (is_one_of words word) none in
    ap (λ l. is_one_of l word) (filter_by p first words true e) ∙ ap (λ b. b || is_one_of (filter p words) word) parts.0 ∙ rest parts.1
left_out_by p first word words false e none rest =
    ap (λ l. is_one_of l word) (filter_by p first words false e) ∙ rest (no_part (bytes_eq first word) (is_one_of words word) none).1

left_out : (p : Test) (words : List (List ℕ)) (word : List ℕ) → is_one_of words word ≡ false → is_one_of (filter p words) word ≡ false
left_out p [] word none = none
left_out p (first ∷ words) word none = left_out_by p first word words (p first) refl none (left_out p words word)

unique_by : (p : Test) (word : List ℕ) (words : List (List ℕ)) (b : Bool) → p word ≡ b → is_one_of words word ≡ false → IsUnique (filter p words) → IsUnique (filter p (word ∷ words))
unique_by p word words true e none rest = subst IsUnique (sym (filter_by p word words true e)) (left_out p words word none, rest)
unique_by p word words false e none rest = subst IsUnique (sym (filter_by p word words false e)) rest

unique_filter : (p : Test) (words : List (List ℕ)) → IsUnique words → IsUnique (filter p words)
unique_filter p [] unique = tt
unique_filter p (word ∷ words) unique = unique_by p word words (p word) refl unique.0 (unique_filter p words unique.1)

-- the word itself is left out
itself_by : (word first : List ℕ) (words : List (List ℕ)) (b : Bool) → bytes_eq word first ≡ b → is_one_of (filter (other_than word) words) word ≡ false → is_one_of (filter (other_than word) (first ∷ words)) word ≡ false
itself_by word first words true e rest = ap (λ l. is_one_of l word) (filter_by (other_than word) first words false (ap not e)) ∙ rest
itself_by word first words false e rest =
    ap (λ l. is_one_of l word) (filter_by (other_than word) first words true (ap not e)) ∙ ap (λ b. b || is_one_of (filter (other_than word) words) word) (not_back word first (bytes_eq first word) refl e) ∙ rest

itself_out : (word : List ℕ) (words : List (List ℕ)) → is_one_of (filter (other_than word) words) word ≡ false
itself_out word [] = refl
itself_out word (first ∷ words) = itself_by word first words (bytes_eq word first) refl (itself_out word words)

unique_distinct : (words : List (List ℕ)) → IsUnique (distinct words)
unique_distinct [] = tt
unique_distinct (word ∷ words) = (itself_out word (distinct words), unique_filter (other_than word) (distinct words) (unique_distinct words))

-- each word has one place
abbrev pub HasOnePlace : List (List ℕ) → Type 0
HasOnePlace words = (word : List ℕ) (i j : ℕ) → slice_get words i ≡ Some word → slice_get words j ≡ Some word → i ≡ j

not_later : (first word : List ℕ) (words : List (List ℕ)) (j : ℕ) → is_one_of words first ≡ false → first ≡ word → slice_get words j ≡ Some word → ⊥
not_later first word words j none same there = false≢true (sym none ∙ ap (is_one_of words) same ∙ one_at words word j there)

one_place : (words : List (List ℕ)) → IsUnique words → HasOnePlace words
one_place [] unique word i j here there = absurd (none-some word here)
one_place (first ∷ words) unique word zero zero here there = refl
one_place (first ∷ words) unique word zero (suc j) here there = absurd (not_later first word words j unique.0 (same_Some first word here) there)
one_place (first ∷ words) unique word (suc i) zero here there = absurd (not_later first word words i unique.0 (same_Some first word there) here)
one_place (first ∷ words) unique word (suc i) (suc j) here there = ap suc (one_place words unique.1 word i j here there)

pub distinct_place : (words : List (List ℕ)) → HasOnePlace (distinct words)
distinct_place words = one_place (distinct words) (unique_distinct words)
