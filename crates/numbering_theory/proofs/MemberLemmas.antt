-- Members of lists that are made of lists.
use Rattle.std.proofs.Common.{◌≡◌, ℕ, zero, suc, List, [], ◌∷◌, map, Bool, true, false, refl, sym, ap, subst, ◌∙◌, arith}
use Rattle.std.specs.Prelude.{◌||◌, not, filter, if◌then◌else◌, All, Contains, Some}
use Rattle.std.specs.List.{flat_map}
use Rattle.std.specs.Str.{bytes_eq}
use Rattle.std.proofs.lemmas.Bool.{false≢true}
use Rattle.std.proofs.lemmas.List.Elements.{All-weaker, All-contains_itself, Contains-append_left, Contains-append_right}
use Rattle.std.proofs.lemmas.Option.{slice_get-get_or}
use Rattle.std.proofs.lemmas.Slice.Eq.{bytes_eq-Decides}
use Rattle.outline_theory.specs.Numbering.{is_one_of, distinct}
use Rattle.numbering_theory.proofs.WordPlaces.{one_at}

-- what holds of each member holds of all
pub all_from : {X : Type 0} (P : X → Type 0) (xs : List X) → ((x : X) → Contains xs x → P x) → All P xs
all_from P xs h = All-weaker (Contains xs) P h xs (All-contains_itself xs)

pub contains_map : {X Y : Type 0} (f : X → Y) (xs : List X) (x : X) → Contains xs x → Contains (map f xs) (f x)
contains_map f [] x (k, lt, e) = absurd (omega (arith, lt))
contains_map f (z ∷ xs) x (zero, lt, e) = (zero, omega arith, ap f e)
contains_map f (z ∷ xs) x (suc k, lt, e) =
    let (j, within, same) = contains_map f xs x (k, omega (arith, lt), e) in (suc j, omega (arith, within), same)

pub contains_flat : {X Y : Type 0} (f : X → List Y) (xs : List X) (x : X) (y : Y) → Contains xs x → Contains (f x) y → Contains (flat_map f xs) y
contains_flat f [] x y (k, lt, e) inner = absurd (omega (arith, lt))
contains_flat f (z ∷ xs) x y (zero, lt, e) inner = Contains-append_left (f z) (flat_map f xs) y (subst (λ v. Contains (f v) y) (sym e) inner)
contains_flat f (z ∷ xs) x y (suc k, lt, e) inner = Contains-append_right (f z) (flat_map f xs) y (contains_flat f xs x y (k, omega (arith, lt), e) inner)

pub one_of : (words : List (List ℕ)) (word : List ℕ) → Contains words word → is_one_of words word ≡ true
one_of words word (k, lt, e) = one_at words word k (slice_get-get_or words k word lt ∙ ap Some e)

-- by the test of the first word
one_by : (other word : List ℕ) (words : List (List ℕ)) (b : Bool) → bytes_eq other word ≡ b → is_one_of (other ∷ words) word ≡ (b || is_one_of words word)
one_by other word words b e = ap (λ x. x || is_one_of words word) e

abbrev Test : Type 0
Test = List ℕ → Bool

kept_by : (p : Test) (other word : List ℕ) (words : List (List ℕ)) (b c : Bool) → p other ≡ b → bytes_eq other word ≡ c → p word ≡ true → is_one_of (filter p words) word ≡ is_one_of words word
    → is_one_of (filter p (other ∷ words)) word ≡ is_one_of (other ∷ words) word
kept_by p other word words true c e f passes rest =
    ap (λ x. is_one_of (if x then other ∷ filter p words else filter p words) word) e ∙ ap (λ x. bytes_eq other word || x) rest
kept_by p other word words false true e f passes rest =
    absurd (false≢true (sym e ∙ ap p ((bytes_eq-Decides other word).0 f) ∙ passes))
kept_by p other word words false false e f passes rest =
    ap (λ x. is_one_of (if x then other ∷ filter p words else filter p words) word) e ∙ rest ∙ sym (one_by other word words false f)

-- a word that passes a test is kept by a filter
pub one_of_filter : (p : Test) (words : List (List ℕ)) (word : List ℕ) → p word ≡ true → is_one_of (filter p words) word ≡ is_one_of words word
one_of_filter p [] word passes = refl
one_of_filter p (other ∷ words) word passes = kept_by p other word words (p other) (bytes_eq other word) refl refl passes (one_of_filter p words word passes)

distinct_by : (other word : List ℕ) (words : List (List ℕ)) (b : Bool) → bytes_eq other word ≡ b → is_one_of (distinct words) word ≡ is_one_of words word → is_one_of (distinct (other ∷ words)) word ≡ is_one_of (other ∷ words) word
distinct_by other word words true e rest = one_by other word _ true e ∙ sym (one_by other word words true e)
distinct_by other word words false e rest =
    one_by other word _ false e ∙ one_of_filter (λ v. not (bytes_eq other v)) (distinct words) word (ap not e) ∙ rest ∙ sym (one_by other word words false e)

-- the distinct words are the same words
pub one_of_distinct : (words : List (List ℕ)) (word : List ℕ) → is_one_of (distinct words) word ≡ is_one_of words word
one_of_distinct [] word = refl
one_of_distinct (other ∷ words) word = distinct_by other word words (bytes_eq other word) refl (one_of_distinct words word)
