-- What a look-up gives, and what a new word leaves of a vocabulary.
use Rattle.std.proofs.Common.{◌≡◌, ℕ, List, [], ◌∷◌, ◌++◌, length, map, Bool, true, false, refl, sym, ap, subst, ◌∙◌, Bor}
use Rattle.std.specs.Prelude.{Option, Some, None, is_some, not}
use Rattle.std.specs.Option.{option_copied}
use Rattle.std.proofs.lemmas.List.{map-append, length-map}
use Rattle.std.specs.Str.{bytes_eq}
use Rattle.std.specs.Map.{update}
use Rattle.std.proofs.lemmas.Bool.{false≢true}
use Rattle.outline_numbers.specs.declared.vocabulary.Vocabulary.{Vocabulary}
use Rattle.outline_numbers.specs.Vocabularies.{words_of, place_in, IsVocabulary}
use Rattle.numbering_theory.proofs.PlaceLemmas.{GivesPlaces, none_of, one_of_place, places_kept, places_push}

-- an option that is none, or some
pub absent : (o : Option (Bor ℕ)) (b : Bool) → is_some o ≡ not b → b ≡ true → option_copied o ≡ None
absent None b e t = refl
absent (Some x) true e t = absurd (false≢true (sym e))
absent (Some x) false e t = absurd (false≢true t)

pub present : (o : Option (Bor ℕ)) (b : Bool) → is_some o ≡ not b → b ≡ false → (i : ℕ) × (option_copied o ≡ Some i)
present None true e t = absurd (false≢true (sym t))
present None false e t = absurd (false≢true e)
present (Some x) b e t = (x.now, refl)

-- the words with one more
pub words_pushed : (old new : Vocabulary) (word : Bor (List ℕ)) → new.words.items ≡ old.words.items ++ word ∷ [] → words_of new ≡ words_of old ++ word.now ∷ []
words_pushed old new word pushed = ap (map (λ w. w.now)) pushed ∙ map-append (λ w. w.now) old.words.items (word ∷ [])

-- and their places
pub new_places : (old new : Vocabulary) (word : Bor (List ℕ)) (next : ℕ) → IsVocabulary old → place_in old word.now ≡ None → new.words.items ≡ old.words.items ++ word ∷ [] → next ≡ length old.words.items
    → ((w : List ℕ) → place_in new w ≡ update bytes_eq (place_in old) word.now (Some next) w) → IsVocabulary new
new_places old new word next gives none pushed at updated =
    let place : next ≡ length (words_of old) = at ∙ sym (length-map old.words.items (λ w. w.now)) in
    let places : GivesPlaces (place_in new) (words_of old ++ word.now ∷ []) = places_push (place_in old) (place_in new) (words_of old) word.now gives (none_of (place_in old) (words_of old) word.now gives none) (λ w. updated w ∙ ap (λ n. update bytes_eq (place_in old) word.now (Some n) w) place) in
    subst (GivesPlaces (place_in new)) (sym (words_pushed old new word pushed)) places

pub old_places : (old new : Vocabulary) (word : Bor (List ℕ)) (i : ℕ) → IsVocabulary old → place_in old word.now ≡ Some i → new.words.items ≡ old.words.items ++ word ∷ [] → ((w : List ℕ) → place_in new w ≡ place_in old w) → IsVocabulary new
old_places old new word i gives some pushed same =
    let places : GivesPlaces (place_in old) (words_of old ++ word.now ∷ []) = places_kept (place_in old) (words_of old) word.now gives (one_of_place (place_in old) (words_of old) word.now i gives some) in
    subst (GivesPlaces (place_in new)) (sym (words_pushed old new word pushed)) (λ w. same w ∙ places w)
