-- The lines of names, written in blocks.
use Rattle.std.proofs.Common.{◌≡◌, ℕ, zero, suc, ◌+◌, ◌-◌, ◌<◌, List, [], ◌∷◌, ◌++◌, length, take, drop, slice_get, Some, sym, ap, ◌∙◌, arith, append_assoc, append-nil}
use Rattle.std.proofs.lemmas.List.{length-take}
use Rattle.std.proofs.lemmas.Option.{same_Some}
use Rattle.translation_theory.specs.DeclaredNames.{Row, row_text, rows_text}

rows_split : (n : ℕ) (xs ys : List Row) → rows_text n (xs ++ ys) ≡ rows_text n xs ++ rows_text (n + length xs) ys
rows_split n [] ys =
    let here : n ≡ n + 0 = omega arith in
    ap (λ m. rows_text m ys) here
rows_split n (x ∷ xs) ys =
    let later : n + 1 + length xs ≡ n + suc (length xs) = omega arith in
    ap (λ l. row_text n x ++ l) (rows_split (n + 1) xs ys ∙ ap (λ m. rows_text (n + 1) xs ++ rows_text m ys) later) ∙ sym (append_assoc (row_text n x) (rows_text (n + 1) xs) (rows_text (n + suc (length xs)) ys))

-- rows are those before a place, the one there, and the rest
row_there : (rows : List Row) (i : ℕ) (row : Row) → slice_get rows i ≡ Some row → rows ≡ take i rows ++ row ∷ drop (suc i) rows
row_there [] i row e = cc
row_there (x ∷ rows) zero row e = ap (λ y. y ∷ rows) (same_Some x row e)
row_there (x ∷ rows) (suc i) row e = ap (λ l. x ∷ l) (row_there rows i row e)

module _ (rows : List Row) (i : ℕ) (row : Row) (there : slice_get rows i ≡ Some row) (within : i < length rows) where
  before_it : length (take i rows) ≡ i
  before_it = omega (arith, within, length-take i rows)

  -- the lines before a name, its own, and the rest
  pub around_row : rows_text 1 rows ≡ rows_text 1 (take i rows) ++ (row_text (i + 1) row ++ rows_text (i + 1 + 1) (drop (suc i) rows))
  around_row =
      let number : 1 + length (take i rows) ≡ i + 1 = omega (arith, before_it) in
      ap (rows_text 1) (row_there rows i row there) ∙ rows_split 1 (take i rows) (row ∷ drop (suc i) rows) ∙ ap (λ m. rows_text 1 (take i rows) ++ rows_text m (row ∷ drop (suc i) rows)) number

  -- the lines of one name more
  pub one_row : rows_text 1 (take i rows) ++ row_text (i + 1) row ≡ rows_text 1 (take (i + 1) rows)
  one_row =
      let number : 1 + length (take i rows) ≡ i + 1 = omega (arith, before_it) in
      ap (λ l. rows_text 1 (take i rows) ++ l) (sym (append-nil (row_text (i + 1) row)))
      ∙ sym (rows_split 1 (take i rows) (row ∷ []) ∙ ap (λ m. rows_text 1 (take i rows) ++ rows_text m (row ∷ [])) number)
      ∙ ap (rows_text 1) (sym (taken_more rows i row there)) ∙ ap (λ k. rows_text 1 (take k rows)) more
    where
      more : suc i ≡ i + 1
      more = omega arith

      taken_more : (rows : List Row) (i : ℕ) (row : Row) → slice_get rows i ≡ Some row → take (suc i) rows ≡ take i rows ++ row ∷ []
      taken_more [] i row e = cc
      taken_more (x ∷ rows) zero row e = ap (λ y. y ∷ []) (same_Some x row e)
      taken_more (x ∷ rows) (suc i) row e = ap (λ l. x ∷ l) (taken_more rows i row e)

-- the row of a number, counted from 1
pub row_at : (rows : List Row) (i : ℕ) (row : Row) → slice_get rows (i + 1 - 1) ≡ Some row → slice_get rows i ≡ Some row
row_at rows i row e =
    let same : i + 1 - 1 ≡ i = omega arith in
    ap (slice_get rows) (sym same) ∙ e
