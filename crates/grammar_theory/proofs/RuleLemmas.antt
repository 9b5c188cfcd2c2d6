-- Rules, and what holds of the names and tokens of joined lists of symbols.
use Rattle.std.proofs.Common.{◌≡◌, ℕ, zero, suc, List, [], ◌∷◌, ◌++◌, length, slice_get, Option, Some, refl, sym, ap, ◌∙◌, inl, inr, ◌⊎◌}
use Rattle.grammar_data.specs.declared.rule.Sym.{Sym}
use Rattle.grammar_data.specs.declared.rule.Sym.TheVariants.{Token, Name}
use Rattle.grammar_data.specs.Grammar.{Rule}
use Rattle.grammar_theory.specs.Rules.{IsRule, AllNames, AllTokens}

some_pair : {A B : Type 0} {a b : A} {x y : B} → ◌≡◌ {A = Option (A × B)} (Some (a, x)) (Some (b, y)) → (a ≡ b) × (x ≡ y)
some_pair {A} {B} {a} {b} {x} {y} e = let p : ◌≡◌ {A = A × B} (a, x) (b, y) = cc in (ap (λ q. q.0) p, ap (λ q. q.1) p)

-- a rule has one left side and one right side
pub rule_once : {rules : List Rule} {r n m : ℕ} {right other : List Sym} → IsRule rules r n right → IsRule rules r m other → (n ≡ m) × (right ≡ other)
rule_once first second = some_pair (sym first.found ∙ second.found)

pub slice_get_last : {X : Type 0} (xs : List X) (x : X) → slice_get (xs ++ x ∷ []) (length xs) ≡ Some x
slice_get_last [] x = refl
slice_get_last (y ∷ xs) x = slice_get_last xs x

-- an element of a list with one more is one of the list, or the last
pub slice_get_cases : {X : Type 0} (xs : List X) (y x : X) (i : ℕ) → slice_get (xs ++ y ∷ []) i ≡ Some x → (slice_get xs i ≡ Some x) ⊎ ((i ≡ length xs) × (y ≡ x))
slice_get_cases [] y x zero e = inr (refl, cc)
slice_get_cases [] y x (suc i) e = absurd (cc)
slice_get_cases (z ∷ xs) y x zero e = inl e
slice_get_cases (z ∷ xs) y x (suc i) e = more (slice_get_cases xs y x i e)
  where
    more : (slice_get xs i ≡ Some x) ⊎ ((i ≡ length xs) × (y ≡ x)) → (slice_get xs i ≡ Some x) ⊎ ((suc i ≡ suc (length xs)) × (y ≡ x))
    more (inl found) = inl found
    more (inr last) = inr (ap suc last.0, last.1)

pub names_front : (P : ℕ → Type 0) (xs ys : List Sym) → AllNames P (xs ++ ys) → AllNames P xs
names_front P [] ys all = tt
names_front P (Token a ∷ xs) ys all = names_front P xs ys all
names_front P (Name n ∷ xs) ys all = (all.0, names_front P xs ys all.1)

pub names_back : (P : ℕ → Type 0) (xs ys : List Sym) → AllNames P (xs ++ ys) → AllNames P ys
names_back P [] ys all = all
names_back P (Token a ∷ xs) ys all = names_back P xs ys all
names_back P (Name n ∷ xs) ys all = names_back P xs ys all.1

pub names_joined : (P : ℕ → Type 0) (xs ys : List Sym) → AllNames P xs → AllNames P ys → AllNames P (xs ++ ys)
names_joined P [] ys first second = second
names_joined P (Token a ∷ xs) ys first second = names_joined P xs ys first second
names_joined P (Name n ∷ xs) ys first second = (first.0, names_joined P xs ys first.1 second)

pub tokens_front : (P : ℕ → Type 0) (xs ys : List Sym) → AllTokens P (xs ++ ys) → AllTokens P xs
tokens_front P [] ys all = tt
tokens_front P (Token a ∷ xs) ys all = (all.0, tokens_front P xs ys all.1)
tokens_front P (Name n ∷ xs) ys all = tokens_front P xs ys all

pub tokens_back : (P : ℕ → Type 0) (xs ys : List Sym) → AllTokens P (xs ++ ys) → AllTokens P ys
tokens_back P [] ys all = all
tokens_back P (Token a ∷ xs) ys all = tokens_back P xs ys all.1
tokens_back P (Name n ∷ xs) ys all = tokens_back P xs ys all

pub tokens_joined : (P : ℕ → Type 0) (xs ys : List Sym) → AllTokens P xs → AllTokens P ys → AllTokens P (xs ++ ys)
tokens_joined P [] ys first second = second
tokens_joined P (Token a ∷ xs) ys first second = (first.0, tokens_joined P xs ys first.1 second)
tokens_joined P (Name n ∷ xs) ys first second = tokens_joined P xs ys first second

-- two lists joined in two ways with fronts of one length are the same lists
pub same_parts : {X : Type 0} (xs ys us vs : List X) → xs ++ ys ≡ us ++ vs → length xs ≡ length us → (xs ≡ us) × (ys ≡ vs)
same_parts [] ys [] vs e len = (refl, e)
same_parts [] ys (u ∷ us) vs e len = absurd (cc)
same_parts (x ∷ xs) ys [] vs e len = absurd (cc)
same_parts (x ∷ xs) ys (u ∷ us) vs e len = let rest = same_parts xs ys us vs (cc) (cc) in (cc (rest.0), rest.1)
