-- A set of words is found among those that are kept, or is put last.
use Rattle.std.proofs.Common.{◌≡◌, ℕ, zero, suc, ◌+◌, ◌⊎◌, inl, inr, Bool, true, false, ◌||◌, if◌then◌else◌, List, [], ◌∷◌, ◌++◌, length, refl, sym, ap, ◌∙◌, arith}
use Rattle.std.specs.Prelude.{not, nat_eq, slice_get, Some}
use Rattle.std.specs.List.{list_any, position_or_len}
use Rattle.std.specs.Cmp.Lexicographic.{pointwise, same_text}
use Rattle.std.specs.Global.{Vec}
use Rattle.std.proofs.lemmas.Bool.{and_from, eq-eqb, false≢true, cases_Bool, or_parts}
use Rattle.std.proofs.lemmas.List.{map-append, length-map}
use Rattle.token_patterns.specs.Searching.{words_of, IsFoundOrAdded}

-- whether two keys have the same words
abbrev pub same_words : Vec ℕ → Vec ℕ → Bool
same_words key other = pointwise nat_eq key.items other.items

own_words : (xs : List ℕ) → pointwise nat_eq xs xs ≡ true
own_words [] = refl
own_words (x ∷ xs) = and_from _ _ (eq-eqb x x refl) (own_words xs)

other_words : (key other : Vec ℕ) → same_words key other ≡ false → key.items ≡ other.items → ⊥
other_words key other differs is = false≢true (sym differs ∙ sym (ap (λ l. pointwise nat_eq key.items l) is) ∙ own_words key.items)

abbrev Found : Vec ℕ → List (Vec ℕ) → Type 0
Found key keys = slice_get (words_of keys) (position_or_len (same_words key) keys) ≡ Some key.items

abbrev NotThere : Vec ℕ → List (Vec ℕ) → Type 0
NotThere key keys = (position_or_len (same_words key) keys ≡ length keys) × ((i : ℕ) → slice_get (words_of keys) i ≡ Some key.items → ⊥)

position_here : (key other : Vec ℕ) (keys : List (Vec ℕ)) → same_words key other ≡ true → position_or_len (same_words key) (other ∷ keys) ≡ 0
position_here key other keys is_same = ap (λ b. if not b then 1 + position_or_len (same_words key) keys else 0) is_same

position_later : (key other : Vec ℕ) (keys : List (Vec ℕ)) → same_words key other ≡ false → position_or_len (same_words key) (other ∷ keys) ≡ suc (position_or_len (same_words key) keys)
position_later key other keys differs = ap (λ b. if not b then 1 + position_or_len (same_words key) keys else 0) differs ∙ omega arith

found_step : (key other : Vec ℕ) (keys : List (Vec ℕ)) → (same_words key other ≡ true) ⊎ (same_words key other ≡ false) → (list_any (same_words key) keys ≡ true → Found key keys) → (same_words key other || list_any (same_words key) keys) ≡ true → Found key (other ∷ keys)
found_step key other keys (inl is_same) later any = ap (λ i. slice_get (words_of (other ∷ keys)) i) (position_here key other keys is_same) ∙ ap Some (sym (same_text key.items other.items (sym is_same)))
found_step key other keys (inr differs) later any =
    let rest : list_any (same_words key) keys ≡ true = sym (ap (λ b. b || list_any (same_words key) keys) differs) ∙ any in
    ap (λ i. slice_get (words_of (other ∷ keys)) i) (position_later key other keys differs) ∙ later rest

found : (key : Vec ℕ) (keys : List (Vec ℕ)) → list_any (same_words key) keys ≡ true → Found key keys
found key [] any = absurd (false≢true any)
found key (other ∷ keys) any = found_step key other keys (cases_Bool (same_words key other)) (found key keys) any

not_there : (key : Vec ℕ) (keys : List (Vec ℕ)) → list_any (same_words key) keys ≡ false → NotThere key keys
not_there key [] none = (refl, λ i at. absurd (cc))
not_there key (other ∷ keys) none =
    let parts = or_parts (same_words key other) (list_any (same_words key) keys) none in
    let rest = not_there key keys parts.1 in
    (position_later key other keys parts.0 ∙ ap suc rest.0, λ i at. nowhere i parts.0 rest.1 at)
  where
    nowhere : (i : ℕ) → same_words key other ≡ false → ((i : ℕ) → slice_get (words_of keys) i ≡ Some key.items → ⊥) → slice_get (words_of (other ∷ keys)) i ≡ Some key.items → ⊥
    nowhere zero differs rest at = let is : other.items ≡ key.items = cc in other_words key other differs (sym is)
    nowhere (suc i) differs rest at = rest i at

pub length_words : (keys : List (Vec ℕ)) → length (words_of keys) ≡ length keys
length_words keys = length-map keys (λ (key : Vec ℕ). key.items)

-- the keys with this one
abbrev pub with_key : List (Vec ℕ) → Vec ℕ → List (Vec ℕ)
with_key keys key = if list_any (same_words key) keys then keys else keys ++ key ∷ []

inserted_cases : (key : Vec ℕ) (keys new : List (Vec ℕ)) (k : ℕ) → new ≡ with_key keys key → k ≡ position_or_len (same_words key) keys → (list_any (same_words key) keys ≡ true) ⊎ (list_any (same_words key) keys ≡ false) → IsFoundOrAdded key.items (words_of keys) (words_of new) k
inserted_cases key keys new k is place (inl is_same) =
    let same : new ≡ keys = is ∙ ap (λ b. if b then keys else keys ++ key ∷ []) is_same in
    inl (ap words_of same, ap (λ i. slice_get (words_of keys) i) place ∙ found key keys is_same)
inserted_cases key keys new k is place (inr differs) =
    let more : new ≡ keys ++ key ∷ [] = is ∙ ap (λ b. if b then keys else keys ++ key ∷ []) differs in
    let none = not_there key keys differs in
    inr (ap words_of more ∙ map-append (λ (k : Vec ℕ). k.items) keys (key ∷ []), place ∙ none.0 ∙ sym (length_words keys), none.1)

pub inserted : (key : Vec ℕ) (keys new : List (Vec ℕ)) (k : ℕ) → new ≡ with_key keys key → k ≡ position_or_len (same_words key) keys → IsFoundOrAdded key.items (words_of keys) (words_of new) k
inserted key keys new k is place = inserted_cases key keys new k is place (cases_Bool (list_any (same_words key) keys))

-- the words of a key that is kept
pub kept_words : (keys : List (Vec ℕ)) (k : ℕ) (key : Vec ℕ) (words : List ℕ) → Some key ≡ slice_get keys k → slice_get (words_of keys) k ≡ Some words → key.items ≡ words
kept_words [] k key words is at = absurd (cc)
kept_words (other ∷ keys) zero key words is at = let same : key ≡ other = cc in let here : other.items ≡ words = cc in ap (λ (v : Vec ℕ). v.items) same ∙ here
kept_words (other ∷ keys) (suc k) key words is at = kept_words keys k key words is at
