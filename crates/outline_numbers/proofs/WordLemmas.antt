-- Words that are noted one after another.
use Rattle.std.proofs.Common.{◌≡◌, ℕ, ◌+◌, ◌<◌, ◌≤◌, List, [], ◌∷◌, ◌++◌, length, take, get_or, refl, sym, ap, subst, ◌∙◌}
use Rattle.std.specs.Prelude.{All}
use Rattle.std.specs.List.{flat_map}
use Rattle.std.proofs.lemmas.Grind.{flat_map-append}
use Rattle.std.proofs.lemmas.List.{append-nil, map-append, take_more, take_all}
use Rattle.outline_data.specs.declared.outline.Word.{Word}
use Rattle.outline_theory.specs.Words.{texts}
use Rattle.numbering_theory.specs.Places.{with_word, with_words}

pub with_words-append : (base words more : List (List ℕ)) → with_words base (words ++ more) ≡ with_words (with_words base words) more
with_words-append base [] more = refl
with_words-append base (word ∷ words) more = with_words-append (with_word base word) words more

pub flat_map-next : {X Y : Type 0} (f : X → List Y) (xs : List X) (i : ℕ) (x : X) → i < length xs → x ≡ get_or xs i x → flat_map f (take (i + 1) xs) ≡ flat_map f (take i xs) ++ f x
flat_map-next f xs i x within read =
    ap (flat_map f) (take_more xs i x within) ∙ flat_map-append f (take i xs) (get_or xs i x ∷ []) ∙ ap (λ ys. flat_map f (take i xs) ++ ys) (append-nil (f (get_or xs i x)) ∙ ap f (sym read))

pub joined_next : {X Y : Type 0} (f : X → List Y) (seen xs : List X) (i : ℕ) (x : X) → seen ≡ xs → i < length seen → x ≡ get_or seen i x → flat_map f (take i xs) ++ f x ≡ flat_map f (take (i + 1) xs)
joined_next f seen xs i x same within read =
    subst (λ ys. flat_map f (take i ys) ++ f x ≡ flat_map f (take (i + 1) ys)) same (sym (flat_map-next f seen i x within read))

-- the words of the elements so far, and those of one more
next_of : {X : Type 0} (f : X → List Word) (base : List (List ℕ)) (xs : List X) (i : ℕ) (x : X) → i < length xs → x ≡ get_or xs i x
    → with_words (with_words base (texts (flat_map f (take i xs)))) (texts (f x)) ≡ with_words base (texts (flat_map f (take (i + 1) xs)))
next_of f base xs i x within read =
    sym (with_words-append base (texts (flat_map f (take i xs))) (texts (f x))) ∙ ap (with_words base) (sym (map-append (λ (w : Word). w.bytes) (flat_map f (take i xs)) (f x)) ∙ ap texts (sym (flat_map-next f xs i x within read)))

pub noted_next : {X : Type 0} (f : X → List Word) (base : List (List ℕ)) (seen xs : List X) (i : ℕ) (x : X) → seen ≡ xs → i < length seen → x ≡ get_or seen i x
    → with_words (with_words base (texts (flat_map f (take i xs)))) (texts (f x)) ≡ with_words base (texts (flat_map f (take (i + 1) xs)))
noted_next f base seen xs i x same within read =
    subst (λ ys. with_words (with_words base (texts (flat_map f (take i ys)))) (texts (f x)) ≡ with_words base (texts (flat_map f (take (i + 1) ys)))) same (next_of f base seen i x within read)

-- the words of all elements
pub noted_all : {X : Type 0} (f : X → List Word) (base : List (List ℕ)) (seen xs : List X) (i : ℕ) → seen ≡ xs → length seen ≤ i
    → with_words base (texts (flat_map f (take i xs))) ≡ with_words base (texts (flat_map f xs))
noted_all f base seen xs i same over =
    ap (λ ys. with_words base (texts (flat_map f ys))) (take_all i xs (subst (λ ys. length ys ≤ i) same over))

pub flat_map-nested : {X Y Z : Type 0} (f : Y → List Z) (h : X → List Y) (xs : List X) → flat_map (λ x. flat_map f (h x)) xs ≡ flat_map f (flat_map h xs)
flat_map-nested f h [] = refl
flat_map-nested f h (x ∷ xs) =
    ap (λ zs. flat_map f (h x) ++ zs) (flat_map-nested f h xs) ∙ sym (flat_map-append f (h x) (flat_map h xs))

-- what holds of all elements holds of the one at a place
pub all_at : {X : Type 0} (P : X → Type 0) (seen xs : List X) (i : ℕ) (x : X) → seen ≡ xs → All P xs → i < length seen → x ≡ get_or seen i x → P x
all_at P seen xs i x same all within read =
    let here : P (get_or seen i x) = subst (λ ys. All P ys) (sym same) all i x within in
    subst P (sym read) here
