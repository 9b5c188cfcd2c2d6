-- Counting nodes.
use Rattle.std.proofs.Common.{◌≡◌, ◌≢◌, ℕ, zero, suc, ◌+◌, ◌<◌, ◌==◌, ◌⊎◌, inl, inr, Bool, true, false, List, [], ◌∷◌, ◌++◌, length, slice_index_or, Contains, refl, sym, ap, ◌∙◌, subst, arith}
use Rattle.std.proofs.lemmas.Bool.{eqb-true, eqb-false}
use Rattle.tree_theory.specs.Stores.{Ref}
use Rattle.tree_theory.specs.Walks.{Step, Enter, AtToken, AtHidden, Leave}
use Rattle.use_theory.specs.Counts.{sameness, count_in, nodes_entered, times, CountedLaw, JoinedLaw}
use Rattle.use_theory.specs.Distinct.{TakenOutLaw}

-- ---- one node or two

same_pair : {m n : Ref} → m.0 ≡ n.0 → m.1 ≡ n.1 → m ≡ n
same_pair a b = λ i. (a i, b i)

sameness_by : (m n : Ref) (a b : Bool) → (m.0 == n.0) ≡ a → (m.1 == n.1) ≡ b → ((sameness m n ≡ 1) × (m ≡ n)) ⊎ ((sameness m n ≡ 0) × (m ≢ n))
sameness_by m n true true e f = inl ((rw e (rw f refl)), same_pair (eqb-true m.0 n.0 e) (eqb-true m.1 n.1 f))
sameness_by m n true false e f = inr ((rw e (rw f refl)), λ s. eqb-false m.1 n.1 f (ap (λ p. p.1) s))
sameness_by m n false b e f = inr ((rw e refl), λ s. eqb-false m.0 n.0 e (ap (λ p. p.0) s))

-- two nodes are one, and then sameness is 1; or they are not, and then it is 0
pub same_cases : (m n : Ref) → ((sameness m n ≡ 1) × (m ≡ n)) ⊎ ((sameness m n ≡ 0) × (m ≢ n))
same_cases m n = sameness_by m n (m.0 == n.0) (m.1 == n.1) refl refl

pub same_self : (m : Ref) → sameness m m ≡ 1
same_self m = elim (same_cases m m) as (λ _. sameness m m ≡ 1) [ inl same ↦ same.0 | inr other ↦ absurd (other.1 refl) ]

pub same_zero : (m n : Ref) → m ≢ n → sameness m n ≡ 0
same_zero m n not = elim (same_cases m n) as (λ _. sameness m n ≡ 0) [ inl same ↦ absurd (not same.1) | inr other ↦ other.0 ]

pub same_of : (m n : Ref) → 0 < sameness m n → m ≡ n
same_of m n some = elim (same_cases m n) as (λ _. m ≡ n) [ inl same ↦ same.1 | inr other ↦ (let no = other.0 in absurd (omega (arith, no, some))) ]

-- ---- lists

pub count-append : (m : Ref) (ns others : List Ref) → count_in m (ns ++ others) ≡ count_in m ns + count_in m others
count-append m [] others = omega arith
count-append m (n ∷ ns) others = let rest = count-append m ns others in omega (arith, rest)

pub entered-append : (xs ys : List Step) → nodes_entered (xs ++ ys) ≡ nodes_entered xs ++ nodes_entered ys
entered-append [] ys = refl
entered-append (Enter m ∷ xs) ys = ap (λ l. m ∷ l) (entered-append xs ys)
entered-append (AtToken token ∷ xs) ys = entered-append xs ys
entered-append (AtHidden n i ∷ xs) ys = entered-append xs ys
entered-append (Leave m ∷ xs) ys = entered-append xs ys

pub times-append : (m : Ref) (xs ys : List Step) → times m (xs ++ ys) ≡ times m xs + times m ys
times-append m xs ys = ap (count_in m) (entered-append xs ys) ∙ count-append m (nodes_entered xs) (nodes_entered ys)

pub times_front : (m : Ref) (xs ys : List Step) → 0 < times m xs → 0 < times m (xs ++ ys)
times_front m xs ys some = let sum = times-append m xs ys in omega (arith, sum, some)

pub times_back : (m : Ref) (xs ys : List Step) → 0 < times m ys → 0 < times m (xs ++ ys)
times_back m xs ys some = let sum = times-append m xs ys in omega (arith, sum, some)

-- ---- what is counted stands there

contained_later : {n m : Ref} (ns : List Ref) → Contains {X = Ref} ns m → Contains {X = Ref} (n ∷ ns) m
contained_later ns (k, inside, at) = (suc k, omega (arith, inside), at)

pub counted_stands : (m : Ref) (ns : List Ref) → 0 < count_in m ns → Contains {X = Ref} ns m
counted_stands m [] some = absurd (omega (arith, some))
counted_stands m (n ∷ ns) some = elim (same_cases m n) as (λ _. Contains {X = Ref} (n ∷ ns) m) [
  | inl same ↦ (zero, omega arith, sym same.1)
  | inr other ↦ (let no = other.0 in contained_later ns (counted_stands m ns (omega (arith, some, no))))
]

stands_at : (m : Ref) (ns : List Ref) (k : ℕ) → k < length ns → slice_index_or ns k m ≡ m → 0 < count_in m ns
stands_at m [] k inside at = absurd (omega (arith, inside))
stands_at m (n ∷ ns) zero inside at = let one = subst (λ x. sameness m x ≡ 1) (sym at) (same_self m) in omega (arith, one)
stands_at m (n ∷ ns) (suc k) inside at = let some = stands_at m ns k (omega (arith, inside)) at in omega (arith, some)

pub counted_law : CountedLaw
counted_law m ns = (counted_stands m ns, λ has. stands_at m ns has.0 has.1 has.2)

pub joined_law : JoinedLaw
joined_law m ns others steps more = (count-append m ns others, times-append m steps more)

pub taken_out_law : TakenOutLaw
taken_out_law m front back once = (
  (let sum = count-append m front (m ∷ back) in let less = count-append m front back in let one = same_self m in omega (arith, once, sum, less, one)),
  λ n not. (let sum = count-append n front (m ∷ back) in let less = count-append n front back in let no = same_zero n m not in omega (arith, sum, less, no)),
)
