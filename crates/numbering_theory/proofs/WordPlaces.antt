-- Words at their first places.
use Rattle.std.proofs.Common.{◌≡◌, ℕ, zero, suc, List, [], ◌∷◌, ◌++◌, Bool, true, false, refl, sym, ap, subst, ◌∙◌, arith}
use Rattle.std.specs.Prelude.{Option, Some, None, slice_get, if◌then◌else◌}
use Rattle.std.specs.Str.{bytes_eq}
use Rattle.std.proofs.lemmas.Bool.{false≢true}
use Rattle.std.proofs.lemmas.Slice.Eq.{bytes_eq-Decides}
use Rattle.std.proofs.lemmas.Option.{none-some, same_Some, slice_get_within}
use Rattle.outline_theory.specs.Numbering.{is_one_of, index_of}
use Rattle.numbering_theory.proofs.PlaceLemmas.{GivesPlaces, one_of_by, index_by, place_by}
use Rattle.numbering_theory.specs.Places.{first_place, with_word, IsFound}

-- the first place of a word of the list has it
first_by : (other word : List ℕ) (words : List (List ℕ)) (b : Bool) → bytes_eq other word ≡ b → is_one_of (other ∷ words) word ≡ true
    → (is_one_of words word ≡ true → slice_get words (index_of words word) ≡ Some word) → slice_get (other ∷ words) (index_of (other ∷ words) word) ≡ Some word
first_by other word words true e one rest =
    rw (index_by other word words true e) (ap Some ((bytes_eq-Decides other word).0 e))
first_by other word words false e one rest =
    let next : index_of (other ∷ words) word ≡ suc (index_of words word) = index_by other word words false e ∙ omega arith in
    rw (next) (rest (sym (one_of_by other word words false e) ∙ one))

pub at_first : (words : List (List ℕ)) (word : List ℕ) → is_one_of words word ≡ true → slice_get words (index_of words word) ≡ Some word
at_first [] word e = absurd (false≢true e)
at_first (other ∷ words) word e = first_by other word words (bytes_eq other word) refl e (at_first words word)

-- a word at a place is one of the list
one_at_by : (other word : List ℕ) (words : List (List ℕ)) (b : Bool) → bytes_eq other word ≡ b → is_one_of words word ≡ true → is_one_of (other ∷ words) word ≡ true
one_at_by other word words true e one = one_of_by other word words true e
one_at_by other word words false e one = one_of_by other word words false e ∙ one

pub one_at : (words : List (List ℕ)) (word : List ℕ) (i : ℕ) → slice_get words i ≡ Some word → is_one_of words word ≡ true
one_at [] word i e = absurd (none-some word e)
one_at (other ∷ words) word zero e =
    one_of_by other word words true ((bytes_eq-Decides other word).1 (same_Some other word e))
one_at (other ∷ words) word (suc i) e = one_at_by other word words (bytes_eq other word) refl (one_at words word i e)

-- a look-up by places finds
found_by : (words : List (List ℕ)) (word : List ℕ) (b : Bool) → is_one_of words word ≡ b → (o : Option ℕ) → o ≡ first_place words word → IsFound words word o
found_by words word true one None e = absurd (none-some (index_of words word) (e ∙ place_by words word true one))
found_by words word true one (Some i) e =
    let same : i ≡ index_of words word = same_Some i (index_of words word) (e ∙ place_by words word true one) in
    (one, sym same, slice_get_within words i word (subst (λ n. slice_get words n ≡ Some word) (sym same) (at_first words word one)))
found_by words word false one None e = one
found_by words word false one (Some i) e = absurd (none-some i (sym (e ∙ place_by words word false one)))

pub finds : (f : List ℕ → Option ℕ) (words : List (List ℕ)) (word : List ℕ) → GivesPlaces f words → (o : Option ℕ) → o ≡ f word → IsFound words word o
finds f words word gives o e = found_by words word (is_one_of words word) refl o (e ∙ gives word)

-- a word that is noted
pub with_new : (words : List (List ℕ)) (word : List ℕ) → is_one_of words word ≡ false → words ++ word ∷ [] ≡ with_word words word
with_new words word none = sym (ap (λ b. if b then words else words ++ word ∷ []) none)

pub with_old : (words : List (List ℕ)) (word : List ℕ) → is_one_of words word ≡ true → words ≡ with_word words word
with_old words word one = sym (ap (λ b. if b then words else words ++ word ∷ []) one)
