-- The order of words: total, transitive, irreflexive, and by one more symbol.
use Rattle.std.proofs.Common.{◌≡◌, ℕ, ◌<◌, ◌≤◌, List, [], ◌∷◌, ◌++◌, length, refl, sym, ap, ◌∙◌, subst, inl, inr, ◌⊎◌, lt_irrefl, arith}
use Rattle.std.proofs.lemmas.List.{length_push}
use Rattle.grammar_data.specs.declared.rule.Sym.{Sym}
use Rattle.grammar_data.specs.declared.rule.Sym.TheVariants.{Token, Name}
use Rattle.item_theory.specs.LeadingWords.{IsSymBefore, IsListBefore, IsWordBefore}

-- ---- symbols

-- two things in an order: the same, or one before the other
number_cases : (n m : ℕ) → (n ≡ m) ⊎ ((n < m) ⊎ (m < n))
number_cases n m = grind arith

pub sym_total : (x y : Sym) → (x ≡ y) ⊎ (IsSymBefore x y ⊎ IsSymBefore y x)
sym_total (Token a) (Token b) = cases (number_cases a b)
  where
    cases : (a ≡ b) ⊎ ((a < b) ⊎ (b < a)) → (Token a ≡ Token b) ⊎ ((a < b) ⊎ (b < a))
    cases (inl e) = inl (ap Token e)
    cases (inr less) = inr less
sym_total (Token a) (Name m) = inr (inl tt)
sym_total (Name n) (Token b) = inr (inr tt)
sym_total (Name n) (Name m) = cases (number_cases n m)
  where
    cases : (n ≡ m) ⊎ ((n < m) ⊎ (m < n)) → (Name n ≡ Name m) ⊎ ((n < m) ⊎ (m < n))
    cases (inl e) = inl (ap Name e)
    cases (inr less) = inr less

pub sym_transitive : (x y z : Sym) → IsSymBefore x y → IsSymBefore y z → IsSymBefore x z
sym_transitive (Token a) (Token b) (Token c) h k = omega arith
sym_transitive (Token a) (Token b) (Name m) h k = tt
sym_transitive (Token a) (Name n) (Token c) h k = absurd k
sym_transitive (Token a) (Name n) (Name m) h k = tt
sym_transitive (Name n) (Token b) z h k = absurd h
sym_transitive (Name n) (Name m) (Token c) h k = absurd k
sym_transitive (Name n) (Name m) (Name p) h k = omega arith

pub sym_irreflexive : (x : Sym) → IsSymBefore x x → ⊥
sym_irreflexive (Token a) h = lt_irrefl a h
sym_irreflexive (Name n) h = lt_irrefl n h

-- ---- lists of one length

list_more : (x y : Sym) (xs ys : List Sym) → x ≡ y → (xs ≡ ys) ⊎ (IsListBefore xs ys ⊎ IsListBefore ys xs) → (x ∷ xs ≡ y ∷ ys) ⊎ (IsListBefore (x ∷ xs) (y ∷ ys) ⊎ IsListBefore (y ∷ ys) (x ∷ xs))
list_more x y xs ys e (inl same) = inl (cc)
list_more x y xs ys e (inr (inl h)) = inr (inl (inr (e, h)))
list_more x y xs ys e (inr (inr h)) = inr (inr (inr (sym e, h)))

list_first : (x y : Sym) (xs ys : List Sym) → (x ≡ y) ⊎ (IsSymBefore x y ⊎ IsSymBefore y x) → (xs ≡ ys) ⊎ (IsListBefore xs ys ⊎ IsListBefore ys xs) → (x ∷ xs ≡ y ∷ ys) ⊎ (IsListBefore (x ∷ xs) (y ∷ ys) ⊎ IsListBefore (y ∷ ys) (x ∷ xs))
list_first x y xs ys (inl e) rest = list_more x y xs ys e rest
list_first x y xs ys (inr (inl h)) rest = inr (inl (inl h))
list_first x y xs ys (inr (inr h)) rest = inr (inr (inl h))

pub list_total : (xs ys : List Sym) → length xs ≡ length ys → (xs ≡ ys) ⊎ (IsListBefore xs ys ⊎ IsListBefore ys xs)
list_total [] [] e = inl refl
list_total [] (y ∷ ys) e = absurd (cc)
list_total (x ∷ xs) [] e = absurd (cc)
list_total (x ∷ xs) (y ∷ ys) e = list_first x y xs ys (sym_total x y) (list_total xs ys (cc))

pub list_transitive : (xs ys zs : List Sym) → IsListBefore xs ys → IsListBefore ys zs → IsListBefore xs zs
list_transitive [] [] zs h k = absurd h
list_transitive [] (y ∷ ys) zs h k = absurd h
list_transitive (x ∷ xs) [] zs h k = absurd h
list_transitive (x ∷ xs) (y ∷ ys) [] h k = absurd k
list_transitive (x ∷ xs) (y ∷ ys) (z ∷ zs) (inl h) (inl k) = inl (sym_transitive x y z h k)
list_transitive (x ∷ xs) (y ∷ ys) (z ∷ zs) (inl h) (inr k) = inl (subst (λ s. IsSymBefore x s) k.0 h)
list_transitive (x ∷ xs) (y ∷ ys) (z ∷ zs) (inr h) (inl k) = inl (subst (λ s. IsSymBefore s z) (sym h.0) k)
list_transitive (x ∷ xs) (y ∷ ys) (z ∷ zs) (inr h) (inr k) = inr (h.0 ∙ k.0, list_transitive xs ys zs h.1 k.1)

pub list_irreflexive : (xs : List Sym) → IsListBefore xs xs → ⊥
list_irreflexive [] h = h
list_irreflexive (x ∷ xs) (inl h) = sym_irreflexive x h
list_irreflexive (x ∷ xs) (inr h) = list_irreflexive xs h.1

-- ---- words

pub word_total : (xs ys : List Sym) → (xs ≡ ys) ⊎ (IsWordBefore xs ys ⊎ IsWordBefore ys xs)
word_total xs ys = by_length (number_cases (length xs) (length ys))
  where
    same_length : length xs ≡ length ys → (xs ≡ ys) ⊎ (IsListBefore xs ys ⊎ IsListBefore ys xs) → (xs ≡ ys) ⊎ (IsWordBefore xs ys ⊎ IsWordBefore ys xs)
    same_length e (inl same) = inl same
    same_length e (inr (inl h)) = inr (inl (inr (e, h)))
    same_length e (inr (inr h)) = inr (inr (inr (sym e, h)))

    by_length : (length xs ≡ length ys) ⊎ ((length xs < length ys) ⊎ (length ys < length xs)) → (xs ≡ ys) ⊎ (IsWordBefore xs ys ⊎ IsWordBefore ys xs)
    by_length (inl e) = same_length e (list_total xs ys e)
    by_length (inr (inl less)) = inr (inl (inl less))
    by_length (inr (inr less)) = inr (inr (inl less))

pub word_transitive : (xs ys zs : List Sym) → IsWordBefore xs ys → IsWordBefore ys zs → IsWordBefore xs zs
word_transitive xs ys zs (inl h) (inl k) = inl (omega arith)
word_transitive xs ys zs (inl h) (inr k) = let e = k.0 in inl (omega arith)
word_transitive xs ys zs (inr h) (inl k) = let e = h.0 in inl (omega arith)
word_transitive xs ys zs (inr h) (inr k) = inr (h.0 ∙ k.0, list_transitive xs ys zs h.1 k.1)

pub word_irreflexive : (xs : List Sym) → IsWordBefore xs xs → ⊥
word_irreflexive xs (inl h) = lt_irrefl (length xs) h
word_irreflexive xs (inr h) = list_irreflexive xs h.1

-- ---- one more symbol

list_push : (xs ys : List Sym) (x y : Sym) → IsListBefore xs ys → IsListBefore (xs ++ x ∷ []) (ys ++ y ∷ [])
list_push [] [] x y h = absurd h
list_push [] (z ∷ ys) x y h = absurd h
list_push (z ∷ xs) [] x y h = absurd h
list_push (u ∷ xs) (v ∷ ys) x y (inl h) = inl h
list_push (u ∷ xs) (v ∷ ys) x y (inr h) = inr (h.0, list_push xs ys x y h.1)

list_push_last : (xs : List Sym) (x y : Sym) → IsSymBefore x y → IsListBefore (xs ++ x ∷ []) (xs ++ y ∷ [])
list_push_last [] x y h = inl h
list_push_last (z ∷ xs) x y h = inr (refl, list_push_last xs x y h)

pub word_push : (xs ys : List Sym) (x y : Sym) → IsWordBefore xs ys → IsWordBefore (xs ++ x ∷ []) (ys ++ y ∷ [])
word_push xs ys x y (inl h) = inl (omega (arith, length_push xs x, length_push ys y))
word_push xs ys x y (inr h) = let e = h.0 in inr (omega (arith, length_push xs x, length_push ys y), list_push xs ys x y h.1)

pub word_push_last : (xs : List Sym) (x y : Sym) → IsSymBefore x y → IsWordBefore (xs ++ x ∷ []) (xs ++ y ∷ [])
word_push_last xs x y h = inr (omega (arith, length_push xs x, length_push xs y), list_push_last xs x y h)

pub word_before_push : (xs ys : List Sym) (y : Sym) → length xs ≤ length ys → IsWordBefore xs (ys ++ y ∷ [])
word_before_push xs ys y le = inl (omega (arith, length_push ys y))

pub word_le : (xs ys : List Sym) → IsWordBefore xs ys → length xs ≤ length ys
word_le xs ys (inl h) = omega arith
word_le xs ys (inr h) = let e = h.0 in omega arith

pop_more : (u v : Sym) (xs ys : List Sym) (x y : Sym) → u ≡ v → IsListBefore xs ys ⊎ ((xs ≡ ys) × IsSymBefore x y) → IsListBefore (u ∷ xs) (v ∷ ys) ⊎ ((u ∷ xs ≡ v ∷ ys) × IsSymBefore x y)
pop_more u v xs ys x y e (inl h) = inl (inr (e, h))
pop_more u v xs ys x y e (inr h) = let same = h.0 in inr (cc, h.1)

list_pop : (xs ys : List Sym) (x y : Sym) → length xs ≡ length ys → IsListBefore (xs ++ x ∷ []) (ys ++ y ∷ []) → IsListBefore xs ys ⊎ ((xs ≡ ys) × IsSymBefore x y)
list_pop [] [] x y e (inl h) = inr (refl, h)
list_pop [] [] x y e (inr h) = absurd h.1
list_pop [] (v ∷ ys) x y e h = absurd (cc)
list_pop (u ∷ xs) [] x y e h = absurd (cc)
list_pop (u ∷ xs) (v ∷ ys) x y e (inl h) = inl (inl h)
list_pop (u ∷ xs) (v ∷ ys) x y e (inr h) = pop_more u v xs ys x y h.0 (list_pop xs ys x y (cc) h.1)

pub word_pop : (xs ys : List Sym) (x y : Sym) → IsWordBefore (xs ++ x ∷ []) (ys ++ y ∷ []) → IsWordBefore xs ys ⊎ ((xs ≡ ys) × IsSymBefore x y)
word_pop xs ys x y (inl h) = inl (inl (omega (arith, length_push xs x, length_push ys y)))
word_pop xs ys x y (inr h) = cases same (list_pop xs ys x y same h.1)
  where
    same : length xs ≡ length ys
    same = let e = h.0 in omega (arith, length_push xs x, length_push ys y)

    cases : length xs ≡ length ys → IsListBefore xs ys ⊎ ((xs ≡ ys) × IsSymBefore x y) → IsWordBefore xs ys ⊎ ((xs ≡ ys) × IsSymBefore x y)
    cases e (inl k) = inl (inr (e, k))
    cases e (inr k) = inr k
