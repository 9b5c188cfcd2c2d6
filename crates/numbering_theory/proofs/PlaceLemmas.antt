-- First places in a list, and an index that gives them.
use Rattle.std.proofs.Common.{◌≡◌, ℕ, ◌+◌, List, [], ◌∷◌, ◌++◌, length, Bool, true, false, refl, sym, ap, ◌∙◌, arith}
use Rattle.std.specs.Prelude.{◌||◌, if◌then◌else◌, Option, Some, None}
use Rattle.std.specs.Str.{bytes_eq}
use Rattle.std.specs.Map.{update}
use Rattle.std.proofs.lemmas.Bool.{false≢true}
use Rattle.std.proofs.lemmas.List.Folds.{list_any-append}
use Rattle.std.proofs.lemmas.Slice.Eq.{bytes_eq-Decides}
use Rattle.std.proofs.lemmas.Map.{update_same, update_other}
use Rattle.std.proofs.lemmas.Option.{none-some}
use Rattle.outline_theory.specs.Numbering.{is_one_of, index_of}
use Rattle.numbering_theory.specs.Places.{first_place}

-- a look-up gives the first place of each word, and nothing else
abbrev pub GivesPlaces : (List ℕ → Option ℕ) → List (List ℕ) → Type 0
GivesPlaces f words = (word : List ℕ) → f word ≡ first_place words word

-- by the test of the first word
pub one_of_by : (other word : List ℕ) (words : List (List ℕ)) (b : Bool) → bytes_eq other word ≡ b → is_one_of (other ∷ words) word ≡ (b || is_one_of words word)
one_of_by other word words b e = ap (λ x. x || is_one_of words word) e

pub index_by : (other word : List ℕ) (words : List (List ℕ)) (b : Bool) → bytes_eq other word ≡ b → index_of (other ∷ words) word ≡ (if b then 0 else index_of words word + 1)
index_by other word words b e = ap (λ x. if x then 0 else index_of words word + 1) e

-- by whether the word is one of the list
pub place_by : (words : List (List ℕ)) (word : List ℕ) (b : Bool) → is_one_of words word ≡ b → first_place words word ≡ (if b then Some (index_of words word) else None)
place_by words word b e = ap (λ x. if x then Some (index_of words word) else None) e

or_false : (b : Bool) → (b || false) ≡ b
or_false true = refl
or_false false = refl

pub one_of-push : (words : List (List ℕ)) (word other : List ℕ) → is_one_of (words ++ word ∷ []) other ≡ (is_one_of words other || bytes_eq word other)
one_of-push words word other = list_any-append (λ w. bytes_eq w other) words (word ∷ []) ∙ ap (λ b. is_one_of words other || b) (or_false (bytes_eq word other))

-- a word of the list keeps its first place
old_by : (first word other : List ℕ) (words : List (List ℕ)) (b : Bool) → bytes_eq first other ≡ b → is_one_of (first ∷ words) other ≡ true → (is_one_of words other ≡ true → index_of (words ++ word ∷ []) other ≡ index_of words other) → index_of (first ∷ (words ++ word ∷ [])) other ≡ index_of (first ∷ words) other
old_by first word other words true e one rest = index_by first other (words ++ word ∷ []) true e ∙ sym (index_by first other words true e)
old_by first word other words false e one rest =
    index_by first other (words ++ word ∷ []) false e ∙ ap (λ n. n + 1) (rest (sym (one_of_by first other words false e) ∙ one)) ∙ sym (index_by first other words false e)

index_old : (words : List (List ℕ)) (word other : List ℕ) → is_one_of words other ≡ true → index_of (words ++ word ∷ []) other ≡ index_of words other
index_old [] word other one = absurd (false≢true one)
index_old (first ∷ words) word other one = old_by first word other words (bytes_eq first other) refl one (index_old words word other)

-- and one that is none of it gets the last
new_by : (first word other : List ℕ) (words : List (List ℕ)) (b : Bool) → bytes_eq first other ≡ b → is_one_of (first ∷ words) other ≡ false → (is_one_of words other ≡ false → index_of (words ++ word ∷ []) other ≡ length words) → index_of (first ∷ (words ++ word ∷ [])) other ≡ length (first ∷ words)
new_by first word other words true e none rest = absurd (false≢true (sym none ∙ one_of_by first other words true e))
new_by first word other words false e none rest =
    index_by first other (words ++ word ∷ []) false e ∙ ap (λ n. n + 1) (rest (sym (one_of_by first other words false e) ∙ none)) ∙ omega arith

index_new : (words : List (List ℕ)) (word other : List ℕ) → is_one_of words other ≡ false → bytes_eq word other ≡ true → index_of (words ++ word ∷ []) other ≡ length words
index_new [] word other none same = index_by word other [] true same
index_new (first ∷ words) word other none same = new_by first word other words (bytes_eq first other) refl none (λ rest. index_new words word other rest same)

-- the first places with one more word behind
place_old : (words : List (List ℕ)) (word other : List ℕ) → is_one_of words other ≡ true → first_place (words ++ word ∷ []) other ≡ first_place words other
place_old words word other one =
    place_by (words ++ word ∷ []) other true (one_of-push words word other ∙ ap (λ b. b || bytes_eq word other) one) ∙ ap Some (index_old words word other one) ∙ sym (place_by words other true one)

place_new : (words : List (List ℕ)) (word other : List ℕ) → is_one_of words other ≡ false → bytes_eq word other ≡ true → first_place (words ++ word ∷ []) other ≡ Some (length words)
place_new words word other none same =
    place_by (words ++ word ∷ []) other true (one_of-push words word other ∙ ap (λ b. b || bytes_eq word other) none ∙ same) ∙ ap Some (index_new words word other none same)

place_none : (words : List (List ℕ)) (word other : List ℕ) → is_one_of words other ≡ false → bytes_eq word other ≡ false → first_place (words ++ word ∷ []) other ≡ first_place words other
place_none words word other none apart =
    place_by (words ++ word ∷ []) other false (one_of-push words word other ∙ ap (λ b. b || bytes_eq word other) none ∙ apart) ∙ sym (place_by words other false none)

kept_by : (words : List (List ℕ)) (word other : List ℕ) (b c : Bool) → is_one_of words other ≡ b → bytes_eq word other ≡ c → (c ≡ true → b ≡ true) → first_place (words ++ word ∷ []) other ≡ first_place words other
kept_by words word other true c one same known = place_old words word other one
kept_by words word other false true none same known = absurd (false≢true (known refl))
kept_by words word other false false none apart known = place_none words word other none apart

-- where the word is one of the list
pub places_kept : (f : List ℕ → Option ℕ) (words : List (List ℕ)) (word : List ℕ) → GivesPlaces f words → is_one_of words word ≡ true → GivesPlaces f (words ++ word ∷ [])
places_kept f words word gives one other =
    gives other ∙ sym (kept_by words word other (is_one_of words other) (bytes_eq word other) refl refl (λ e. ap (is_one_of words) (sym ((bytes_eq-Decides word other).0 e)) ∙ one))

grown_by : (f g : List ℕ → Option ℕ) (words : List (List ℕ)) (word other : List ℕ) (c : Bool) → GivesPlaces f words → is_one_of words word ≡ false → g other ≡ update bytes_eq f word (Some (length words)) other → bytes_eq word other ≡ c → g other ≡ first_place (words ++ word ∷ []) other
grown_by f g words word other true gives none grown same =
    let new : is_one_of words other ≡ false = ap (is_one_of words) (sym ((bytes_eq-Decides word other).0 same)) ∙ none in
    grown ∙ update_same bytes_eq f word (Some (length words)) other same ∙ sym (place_new words word other new same)
grown_by f g words word other false gives none grown apart =
    grown ∙ update_other bytes_eq f word (Some (length words)) other apart ∙ gives other ∙ sym (kept_by words word other (is_one_of words other) false refl apart (λ e. absurd (false≢true e)))

-- and where it is none of it
pub places_push : (f g : List ℕ → Option ℕ) (words : List (List ℕ)) (word : List ℕ) → GivesPlaces f words → is_one_of words word ≡ false → ((w : List ℕ) → g w ≡ update bytes_eq f word (Some (length words)) w) → GivesPlaces g (words ++ word ∷ [])
places_push f g words word gives none grown other = grown_by f g words word other (bytes_eq word other) gives none (grown other) refl

-- a word without a place is none of the list, and one with a place is
none_by : (words : List (List ℕ)) (word : List ℕ) (b : Bool) → is_one_of words word ≡ b → first_place words word ≡ None → b ≡ false
none_by words word true one none = absurd (none-some (index_of words word) (sym none ∙ place_by words word true one))
none_by words word false one none = refl

pub none_of : (f : List ℕ → Option ℕ) (words : List (List ℕ)) (word : List ℕ) → GivesPlaces f words → f word ≡ None → is_one_of words word ≡ false
none_of f words word gives none = none_by words word (is_one_of words word) refl (sym (gives word) ∙ none)

some_by : (words : List (List ℕ)) (word : List ℕ) (i : ℕ) (b : Bool) → is_one_of words word ≡ b → first_place words word ≡ Some i → b ≡ true
some_by words word i true one some = refl
some_by words word i false one some = absurd (none-some i (sym (place_by words word false one) ∙ some))

pub one_of_place : (f : List ℕ → Option ℕ) (words : List (List ℕ)) (word : List ℕ) (i : ℕ) → GivesPlaces f words → f word ≡ Some i → is_one_of words word ≡ true
one_of_place f words word i gives some = some_by words word i (is_one_of words word) refl (sym (gives word) ∙ some)
