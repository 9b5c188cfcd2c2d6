-- The states' lines, written in blocks.
use Rattle.std.proofs.Common.{◌≡◌, ℕ, zero, suc, ◌+◌, ◌-◌, ◌<◌, List, [], ◌∷◌, ◌++◌, sym, ap, ◌∙◌, arith, append_assoc, append-nil}
use Rattle.std.specs.List.{flat_map, range_with_len}
use Rattle.std.proofs.lemmas.List.Concat.{flat_map-append}

range_split : (a i k : ℕ) → range_with_len a (i + k) ≡ range_with_len a i ++ range_with_len (a + i) k
range_split a zero k =
    let count : 0 + k ≡ k = omega arith in
    let from : a ≡ a + 0 = omega arith in
    ap (range_with_len a) count ∙ ap (λ m. range_with_len m k) from
range_split a (suc i) k =
    let count : suc i + k ≡ suc (i + k) = omega arith in
    let from : a + 1 + i ≡ a + suc i = omega arith in
    ap (range_with_len a) count ∙ ap (λ l. a ∷ l) (range_split (a + 1) i k ∙ ap (λ m. range_with_len (a + 1) i ++ range_with_len m k) from)

module _ (f : ℕ → List ℕ) (line : List ℕ) where
  abbrev pub so_far : ℕ → List ℕ
  so_far i = line ++ flat_map f (range_with_len 0 i)

  -- one state more
  pub one_state : (i : ℕ) → so_far i ++ f i ≡ so_far (i + 1)
  one_state i =
      let here : 0 + i ≡ i = omega arith in
      append_assoc line (flat_map f (range_with_len 0 i)) (f i)
      ∙ ap (λ l. line ++ (flat_map f (range_with_len 0 i) ++ l)) (sym (append-nil (f i)) ∙ ap (λ m. f m ++ []) (sym here))
      ∙ ap (λ l. line ++ l) (sym (flat_map-append f (range_with_len 0 i) ((0 + i) ∷ [])) ∙ ap (flat_map f) (sym (range_split 0 i 1)))

  -- the lines before a state, its own, and the rest
  pub around_state : (i n : ℕ) → i < n → so_far n ≡ so_far i ++ (f i ++ flat_map f (range_with_len (i + 1) (n - (i + 1))))
  around_state i n less =
      let count : n ≡ (i + 1) + (n - (i + 1)) = omega (arith, less) in
      let behind : 0 + (i + 1) ≡ i + 1 = omega arith in
      ap (λ m. line ++ flat_map f (range_with_len 0 m)) count
      ∙ ap (λ l. line ++ flat_map f l) (range_split 0 (i + 1) (n - (i + 1)) ∙ ap (λ m. range_with_len 0 (i + 1) ++ range_with_len m (n - (i + 1))) behind)
      ∙ ap (λ l. line ++ l) (flat_map-append f (range_with_len 0 (i + 1)) (range_with_len (i + 1) (n - (i + 1))))
      ∙ sym (append_assoc line (flat_map f (range_with_len 0 (i + 1))) (flat_map f (range_with_len (i + 1) (n - (i + 1)))))
      ∙ ap (λ l. l ++ flat_map f (range_with_len (i + 1) (n - (i + 1)))) (sym (one_state i))
      ∙ append_assoc (so_far i) (f i) (flat_map f (range_with_len (i + 1) (n - (i + 1))))
