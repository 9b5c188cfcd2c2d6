-- The names of marked leaves: they differ, stand in the order of their first leaves, and are numbered by their places.
use Rattle.std.proofs.Common.{◌≡◌, ℕ, ◌+◌, ◌<◌, List, [], ◌∷◌, length, map, get_or, Bool, true, false, refl, sym, ap, subst, ◌∙◌, arith}
use Rattle.std.specs.Prelude.{if◌then◌else◌, not, filter, Contains, slice_get, Some}
use Rattle.std.specs.List.{AllPairs}
use Rattle.std.specs.Option.{option_map}
use Rattle.std.specs.Str.{bytes_eq}
use Rattle.std.proofs.lemmas.Bool.{false≢true}
use Rattle.std.proofs.lemmas.List.{get_or-map, length-map}
use Rattle.std.proofs.lemmas.List.Elements.{filter_passes}
use Rattle.std.proofs.lemmas.List.Kept.{AllPairs-cons, AllPairs-filter}
use Rattle.std.proofs.lemmas.Option.{slice_get-map, slice_get-get_or}
use Rattle.std.proofs.lemmas.Slice.Eq.{bytes_eq-Decides}
use Rattle.grammar_data.specs.declared.token.Token.{Token as TextToken}
use Rattle.outline_theory.specs.Numbering.{is_one_of, index_of, distinct}
use Rattle.numbering_theory.proofs.PlaceLemmas.{index_by}
use Rattle.numbering_theory.proofs.WordPlaces.{at_first, one_at}
use Rattle.numbering_theory.proofs.DistinctLemmas.{contains, HasOnePlace, distinct_place}
use Rattle.numbering_theory.proofs.MemberLemmas.{one_of, one_of_distinct}
use Rattle.translation_theory.specs.TokenTexts.{texts_of}
use Rattle.translation_theory.specs.DeclaredNames.{Row, row_of, rows_of, texts_in, number_in, NoRepeatLaw, NamedLaw, NumberLaw, NoNumberLaw, FirstLeavesLaw}

-- ---- the byte strings of names

texts_in-map : (text : List ℕ) (leaves : List TextToken) (words : List (List ℕ)) → texts_in (map (row_of text leaves) words) ≡ words
texts_in-map text leaves [] = refl
texts_in-map text leaves (word ∷ words) = ap (λ l. word ∷ l) (texts_in-map text leaves words)

pub texts_in-rows_of : (text : List ℕ) (leaves : List TextToken) → texts_in (rows_of text leaves) ≡ distinct (texts_of text leaves)
unfolding rows_of
texts_in-rows_of text leaves = texts_in-map text leaves (distinct (texts_of text leaves))

-- a name is one of the leaves', and the other way round
pub one_of_rows : (text : List ℕ) (leaves : List TextToken) (bytes : List ℕ) → is_one_of (texts_in (rows_of text leaves)) bytes ≡ is_one_of (texts_of text leaves) bytes
one_of_rows text leaves bytes = ap (λ l. is_one_of l bytes) (texts_in-rows_of text leaves) ∙ one_of_distinct (texts_of text leaves) bytes

pub named : NamedLaw
named text leaves bytes = (
  λ has. contains (texts_of text leaves) bytes (sym (one_of_rows text leaves bytes) ∙ one_of (texts_in (rows_of text leaves)) bytes has),
  λ has. contains (texts_in (rows_of text leaves)) bytes (one_of_rows text leaves bytes ∙ one_of (texts_of text leaves) bytes has),
)

-- ---- numbers

pub number_by : (rows : List Row) (bytes : List ℕ) (b : Bool) → is_one_of (texts_in rows) bytes ≡ b → number_in rows bytes ≡ (if b then index_of (texts_in rows) bytes + 1 else 0)
number_by rows bytes b e = ap (λ x. if x then index_of (texts_in rows) bytes + 1 else 0) e

pub one_place_each : (text : List ℕ) (leaves : List TextToken) → HasOnePlace (texts_in (rows_of text leaves))
one_place_each text leaves = subst HasOnePlace (sym (texts_in-rows_of text leaves)) (distinct_place (texts_of text leaves))

pub number_at : (rows : List Row) → HasOnePlace (texts_in rows) → (k : ℕ) (row : Row) → slice_get rows k ≡ Some row → number_in rows row.text ≡ k + 1
number_at rows once k row at =
    let there : slice_get (texts_in rows) k ≡ Some row.text = slice_get-map (λ (r : Row). r.text) rows k ∙ ap (option_map (λ (r : Row). r.text)) at in
    let one : is_one_of (texts_in rows) row.text ≡ true = one_at (texts_in rows) row.text k there in
    let place : index_of (texts_in rows) row.text ≡ k = once row.text (index_of (texts_in rows) row.text) k (at_first (texts_in rows) row.text one) there in
    number_by rows row.text true one ∙ ap (λ n. n + 1) place

pub number : NumberLaw
number text leaves k row at = number_at (rows_of text leaves) (one_place_each text leaves) k row at

-- bytes that are no name
no_number_by : (rows : List Row) (bytes : List ℕ) (b : Bool) → is_one_of (texts_in rows) bytes ≡ b → number_in rows bytes ≡ 0 → b ≡ false
no_number_by rows bytes true e zero_there = let is = number_by rows bytes true e in absurd (omega (arith, zero_there, is))
no_number_by rows bytes false e zero_there = refl

not_one_by : (words : List (List ℕ)) (word : List ℕ) (b : Bool) → is_one_of words word ≡ b → ¬ (Contains words word) → b ≡ false
not_one_by words word true e none = absurd (none (contains words word e))
not_one_by words word false e none = refl

pub no_number : NoNumberLaw
no_number text leaves bytes =
    let rows : List Row = rows_of text leaves in (
      λ none has. false≢true (sym (no_number_by rows bytes (is_one_of (texts_in rows) bytes) refl none) ∙ one_of_rows text leaves bytes ∙ one_of (texts_of text leaves) bytes has),
      λ none. number_by rows bytes false (one_of_rows text leaves bytes ∙ not_one_by (texts_of text leaves) bytes (is_one_of (texts_of text leaves) bytes) refl none),
    )

-- ---- no name stands twice

pub no_repeat : NoRepeatLaw
no_repeat text leaves i j d less inside same =
    let rows : List Row = rows_of text leaves in
    let one = number text leaves i (get_or rows i d) (slice_get-get_or rows i d (omega (arith, less, inside))) in
    let other = number text leaves j (get_or rows j d) (slice_get-get_or rows j d inside) in
    let both : number_in rows (get_or rows i d).text ≡ number_in rows (get_or rows j d).text = ap (number_in rows) same in
    omega (arith, less, one, other, both)

-- ---- the order of names

other_by : (a : Bool) → not a ≡ true → a ≡ false
other_by true e = absurd (false≢true e)
other_by false e = refl

abbrev Before : List (List ℕ) → List ℕ → List ℕ → Type 0
Before words one other = index_of words one < index_of words other

one_more : (word other : List ℕ) (words : List (List ℕ)) → not (bytes_eq word other) ≡ true → index_of (word ∷ words) other ≡ index_of words other + 1
one_more word other words passes = index_by word other words false (other_by (bytes_eq word other) passes)

first_is : (word : List ℕ) (words : List (List ℕ)) → index_of (word ∷ words) word ≡ 0
first_is word words = index_by word word words true ((bytes_eq-Decides word word).1 refl)

in_order : (words : List (List ℕ)) → AllPairs (Before words) (distinct words)
in_order [] = λ i j d less inside. absurd (omega (arith, inside))
in_order (word ∷ words) =
    AllPairs-cons (Before (word ∷ words)) word (filter test (distinct words))
    (λ k d inside. let first = first_is word words in let more = one_more word (get_or (filter test (distinct words)) k d) words (filter_passes test (distinct words) k d inside) in omega (arith, first, more))
    (λ i j d less inside.
    let before = AllPairs-filter (Before words) test (distinct words) (in_order words) i j d less inside in
    let one = one_more word (get_or (filter test (distinct words)) i d) words (filter_passes test (distinct words) i d (omega (arith, less, inside))) in
    let other = one_more word (get_or (filter test (distinct words)) j d) words (filter_passes test (distinct words) j d inside) in
    omega (arith, before, one, other))
  where
    test : List ℕ → Bool
    test other = not (bytes_eq word other)

pub first_leaves : FirstLeavesLaw
first_leaves text leaves i j d less inside =
    let rows : List Row = rows_of text leaves in
    let words : List (List ℕ) = texts_of text leaves in
    let count : length (texts_in rows) ≡ length rows = length-map rows (λ (r : Row). r.text) in
    let one : get_or (texts_in rows) i [] ≡ (get_or rows i d).text = get_or-map (λ (r : Row). r.text) rows i d [] (omega (arith, less, inside)) in
    let other : get_or (texts_in rows) j [] ≡ (get_or rows j d).text = get_or-map (λ (r : Row). r.text) rows j d [] inside in
    let ordered : AllPairs (Before words) (texts_in rows) = subst (AllPairs (Before words)) (sym (texts_in-rows_of text leaves)) (in_order words) in
    let before : Before words (get_or (texts_in rows) i []) (get_or (texts_in rows) j []) = ordered i j [] less (omega (arith, count, inside)) in
    subst (λ w. Before words w (get_or rows j d).text) one (subst (λ w. Before words (get_or (texts_in rows) i []) w) other before)
