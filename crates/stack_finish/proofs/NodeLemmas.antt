-- Where each node of a store is used once, the store has as many nodes as the walk enters.
use Rattle.std.proofs.Common.{◌≡◌, ◌≢◌, ℕ, zero, suc, ◌+◌, ◌<◌, ◌≤◌, ◌⊎◌, inl, inr, true, false, eqb, if◌then◌else◌, List, [], ◌∷◌, ◌++◌, length, get_or, Contains, Option, Some, None, refl, sym, ap, ◌∙◌, subst, arith}
use Rattle.std.specs.Prelude.{slice_get, AllPairs}
use Rattle.std.proofs.lemmas.Bool.{cases_lt}
use Rattle.std.proofs.lemmas.List.{length-append}
use Rattle.std.proofs.lemmas.Option.{slice_get-get_or, slice_get_past}
use Rattle.std.proofs.lemmas.Bool.Decides.{eqb_tells}
use Rattle.grammar_theory.specs.Trees.{Tree, nodes}
use Rattle.node_data.specs.declared.kid.Kid.{Kid}
use Rattle.tree_theory.specs.Stores.{Ref, Shows}
use Rattle.tree_theory.specs.Walks.{Step, Enter, AtToken, AtHidden, Leave, Walks, entered}
use Rattle.tree_theory.proofs.WalkLemmas.{one_walk_law, walk_law}
use Rattle.use_theory.specs.Counts.{count_in, nodes_entered, times}
use Rattle.use_theory.specs.Distinct.{IsDistinct}
use Rattle.use_theory.proofs.CountLemmas.{same_self, same_zero, count-append, counted_stands}
use Rattle.join_theory.proofs.AliveLemmas.{none_or_some}
use Rattle.node_store.specs.Chunks.{Node, Chunk, numbers_in, nodes_in, store_of, node_count_in}

-- ---- lists in which each node stands as often

-- a list around an element
record IsAround (ys : List Ref) (x : Ref) : Type 0 where
  front : List Ref
  back : List Ref
  parts : ys ≡ front ++ x ∷ back

around_at : (ys : List Ref) (x : Ref) (k : ℕ) → k < length ys → get_or ys k x ≡ x → IsAround ys x
around_at [] x k less e = absurd (omega (arith, less))
around_at (y ∷ ys) x zero less e = record { front = []; back = ys; parts = ap (λ z. z ∷ ys) e }
around_at (y ∷ ys) x (suc k) less e = let rest = around_at ys x k (omega (arith, less)) e in record { front = y ∷ rest.front; back = rest.back; parts = ap (λ l. y ∷ l) rest.parts }

same_counts : (xs ys : List Ref) → ((m : Ref) → count_in m xs ≡ count_in m ys) → length xs ≡ length ys
same_counts [] [] same = refl
same_counts [] (y ∷ ys) same = let one = same_self y in let e = same y in absurd (omega (arith, one, e))
same_counts (x ∷ xs) ys same = by (λ others more. same_counts xs others more) (counted_stands x ys some)
  where
    some : 0 < count_in x ys
    some = let one = same_self x in let e = same x in omega (arith, one, e)

    by : ((others : List Ref) → ((m : Ref) → count_in m xs ≡ count_in m others) → length xs ≡ length others) → Contains {X = Ref} ys x → length (x ∷ xs) ≡ length ys
    by go (k, inside, at) =
        let cut = around_at ys x k inside at in
        let rest = go (cut.front ++ cut.back) (λ m. (let e = same m in let a = ap (count_in m) cut.parts ∙ count-append m cut.front (x ∷ cut.back) in let b = count-append m cut.front cut.back in omega (arith, e, a, b))) in
        let long = ap (λ (l : List Ref). length l) cut.parts ∙ length-append cut.front (x ∷ cut.back) in
        let short = length-append cut.front cut.back in
        omega (arith, rest, long, short)

-- ---- the nodes of a store

abbrev refs_from : ℕ → ℕ → List Node → List Ref
refs_from number i [] = []
refs_from number i (node ∷ nodes) = (number, i) ∷ refs_from number (suc i) nodes

abbrev all_refs : List Chunk → List Ref
all_refs [] = []
all_refs (chunk ∷ chunks) = refs_from chunk.0 0 chunk.1 ++ all_refs chunks

length_refs : (number i : ℕ) (list : List Node) → length (refs_from number i list) ≡ length list
length_refs number i [] = refl
length_refs number i (node ∷ list) = let rest = length_refs number (suc i) list in omega (arith, rest)

length_all : (chunks : List Chunk) → length (all_refs chunks) ≡ node_count_in chunks
length_all [] = refl
length_all (chunk ∷ chunks) =
    let both = length-append (refs_from chunk.0 0 chunk.1) (all_refs chunks) in
    let first = length_refs chunk.0 0 chunk.1 in
    let rest = length_all chunks in
    omega (arith, both, first, rest)

other_number : (m : Ref) (number i : ℕ) (list : List Node) → m.0 ≢ number → count_in m (refs_from number i list) ≡ 0
other_number m number i [] not = refl
other_number m number i (node ∷ list) not =
    let here = same_zero m (number, i) (λ e. not (ap (λ (n : Ref). n.0) e)) in
    let rest = other_number m number (suc i) list not in
    omega (arith, here, rest)

other_place : (m : Ref) (i : ℕ) → m.1 ≢ i → m ≢ (m.0, i)
other_place m i not e = not (ap (λ (n : Ref). n.1) e)

before_all : (m : Ref) (i : ℕ) (list : List Node) → m.1 < i → count_in m (refs_from m.0 i list) ≡ 0
before_all m i [] less = refl
before_all m i (node ∷ list) less =
    let here = same_zero m (m.0, i) (other_place m i (λ e. (let bad : ⊥ = omega (arith, less, e) in bad))) in
    let rest = before_all m (suc i) list (omega (arith, less)) in
    omega (arith, here, rest)

behind_all : (m : Ref) (i : ℕ) (list : List Node) → i + length list ≤ m.1 → count_in m (refs_from m.0 i list) ≡ 0
behind_all m i [] past = refl
behind_all m i (node ∷ list) past =
    let here = same_zero m (m.0, i) (other_place m i (λ e. (let bad : ⊥ = omega (arith, past, e) in bad))) in
    let rest = behind_all m (suc i) list (omega (arith, past)) in
    omega (arith, here, rest)

-- the place of a node stands once among those from `i` on
among : (m : Ref) (i k : ℕ) (list : List Node) → m.1 ≡ i + k → k < length list → count_in m (refs_from m.0 i list) ≡ 1
among m i k [] e less = absurd (omega (arith, less))
among m i zero (node ∷ list) e less =
    let place : m.1 ≡ i = omega (arith, e) in
    let one : count_in m ((m.0, i) ∷ []) ≡ count_in m (m ∷ []) = (λ j. count_in m ((m.0, sym place j) ∷ [])) in
    let self = same_self m in
    let rest = before_all m (suc i) list (omega (arith, place)) in
    omega (arith, one, self, rest)
among m i (suc k) (node ∷ list) e less =
    let here = same_zero m (m.0, i) (other_place m i (λ same. (let bad : ⊥ = omega (arith, e, same) in bad))) in
    let rest = among m (suc i) k list (omega (arith, e)) (omega (arith, less)) in
    omega (arith, here, rest)

-- ---- chunks

no_chunk : (m : Ref) (chunks : List Chunk) → (Contains {X = ℕ} (numbers_in chunks) m.0 → ⊥) → count_in m (all_refs chunks) ≡ 0
no_chunk m [] none = refl
no_chunk m (chunk ∷ chunks) none =
    let both = count-append m (refs_from chunk.0 0 chunk.1) (all_refs chunks) in
    let first = other_number m chunk.0 0 chunk.1 (λ e. none (0, omega arith, sym e)) in
    let rest = no_chunk m chunks (λ has. none (suc has.0, (let inside = has.1 in omega (arith, inside)), has.2)) in
    omega (arith, both, first, rest)

abbrev AreApart : List ℕ → Type 0
AreApart numbers = AllPairs {X = ℕ} (λ a b. a ≢ b) numbers

apart_first : (n : ℕ) (ns : List ℕ) → AreApart (n ∷ ns) → Contains {X = ℕ} ns n → ⊥
apart_first n ns apart (k, inside, at) = apart 0 (suc k) n (omega arith) (omega (arith, inside)) (sym at)

apart_rest : (n : ℕ) (ns : List ℕ) → AreApart (n ∷ ns) → AreApart ns
apart_rest n ns apart i j d less past = apart (suc i) (suc j) d (omega (arith, less)) (omega (arith, past))

-- a node that is there stands once, and another doesn't
pub record IsCounted (chunks : List Chunk) (m : Ref) : Type 0 where
  pub none : store_of chunks m ≡ None → count_in m (all_refs chunks) ≡ 0
  pub some : (n : Node) → store_of chunks m ≡ Some n → count_in m (all_refs chunks) ≡ 1

no_some : {n : Node} → ◌≡◌ {A = Option Node} None (Some n) → ⊥
no_some e = cc

counted : (chunks : List Chunk) → AreApart (numbers_in chunks) → (m : Ref) → IsCounted chunks m
counted [] apart m = record { none = λ e. refl; some = λ n e. absurd (no_some e) }
counted (chunk ∷ chunks) apart m = by (counted chunks (apart_rest chunk.0 (numbers_in chunks) apart) m) (eqb_tells chunk.0 m.0)
  where
    both : count_in m (all_refs (chunk ∷ chunks)) ≡ count_in m (refs_from chunk.0 0 chunk.1) + count_in m (all_refs chunks)
    both = count-append m (refs_from chunk.0 0 chunk.1) (all_refs chunks)

    by : IsCounted chunks m → ((eqb chunk.0 m.0 ≡ true) × (chunk.0 ≡ m.0)) ⊎ ((eqb chunk.0 m.0 ≡ false) × (chunk.0 ≢ m.0)) → IsCounted (chunk ∷ chunks) m
    by rest (inr (test, not)) =
        let same : store_of (chunk ∷ chunks) m ≡ store_of chunks m = ap (λ b. slice_get (if b then chunk.1 else nodes_in chunks m.0) m.1) test in
        let first = other_number m chunk.0 0 chunk.1 (λ e. not (sym e)) in
        record {
          none = λ e. (let more = rest.none (sym same ∙ e) in omega (arith, both, first, more));
          some = λ n e. (let more = rest.some n (sym same ∙ e) in omega (arith, both, first, more));
        }
    by others (inl (test, is)) =
        let same : store_of (chunk ∷ chunks) m ≡ slice_get chunk.1 m.1 = ap (λ b. slice_get (if b then chunk.1 else nodes_in chunks m.0) m.1) test in
        let rest = no_chunk m chunks (subst (λ n. Contains {X = ℕ} (numbers_in chunks) n → ⊥) is (apart_first chunk.0 (numbers_in chunks) apart)) in
        let first : count_in m (refs_from chunk.0 0 chunk.1) ≡ count_in m (refs_from m.0 0 chunk.1) = ap (λ n. count_in m (refs_from n 0 chunk.1)) is in
        record {
          none = λ e. (let past = past_of (sym same ∙ e) in let none = behind_all m 0 chunk.1 (omega (arith, past)) in omega (arith, both, first, rest, none));
          some = λ n e. (let inside = inside_of (sym same ∙ e) in let one = among m 0 m.1 chunk.1 (omega arith) inside in omega (arith, both, first, rest, one));
        }
      where
        past_of : slice_get chunk.1 m.1 ≡ None → length chunk.1 ≤ m.1
        past_of e = where_it_is (cases_lt m.1 (length chunk.1))
          where
            where_it_is : (m.1 < length chunk.1) ⊎ (length chunk.1 ≤ m.1) → length chunk.1 ≤ m.1
            where_it_is (inl less) = absurd (no_some (sym e ∙ slice_get-get_or chunk.1 m.1 (0, []) less))
            where_it_is (inr past) = past

        inside_of : {n : Node} → slice_get chunk.1 m.1 ≡ Some n → m.1 < length chunk.1
        inside_of {n} e = where_it_is (cases_lt m.1 (length chunk.1))
          where
            where_it_is : (m.1 < length chunk.1) ⊎ (length chunk.1 ≤ m.1) → m.1 < length chunk.1
            where_it_is (inl less) = less
            where_it_is (inr past) = absurd (no_some (sym (slice_get_past chunk.1 m.1 past) ∙ e))

-- ---- the walk

length_entered : (steps : List Step) → length (nodes_entered steps) ≡ entered steps
length_entered [] = refl
length_entered (Enter m ∷ steps) = let rest = length_entered steps in omega (arith, rest)
length_entered (AtToken token ∷ steps) = length_entered steps
length_entered (AtHidden n i ∷ steps) = length_entered steps
length_entered (Leave m ∷ steps) = length_entered steps

used_once : (chunks : List Chunk) → AreApart (numbers_in chunks) → (floors : List Ref) (steps : List Step) → IsDistinct (store_of chunks) floors steps → node_count_in chunks ≡ entered steps
used_once chunks apart floors steps distinct = sym (length_all chunks) ∙ same_counts (all_refs chunks) (nodes_entered steps) same ∙ length_entered steps
  where
    same : (m : Ref) → count_in m (all_refs chunks) ≡ count_in m (nodes_entered steps)
    same m = by (none_or_some (store_of chunks m))
      where
        by : (store_of chunks m ≡ None) ⊎ ((n : Node) × (store_of chunks m ≡ Some n)) → count_in m (all_refs chunks) ≡ times m steps
        by (inl none) =
            let zero_here = (counted chunks apart m).none none in
            let most = distinct.once m in
            zero_here ∙ none_there (times m steps) most (λ some. distinct.there m some none)
          where
            none_there : (k : ℕ) → k ≤ 1 → (0 < k → ⊥) → 0 ≡ k
            none_there zero less not = refl
            none_there (suc k) less not = absurd (not (omega arith))
        by (inr (n, there)) =
            let one = (counted chunks apart m).some n there in
            let most = distinct.once m in
            let some = distinct.used m n.0 n.1 there in
            omega (arith, one, most, some)

-- so the store of a tree that uses each node once has the tree's nodes
pub tree_nodes : (chunks : List Chunk) → AreApart (numbers_in chunks) → (n : Ref) (i : ℕ) (kid : Kid) (tree : Tree) (steps : List Step) → Shows (store_of chunks) [] n i kid tree → Walks (store_of chunks) n i kid steps → IsDistinct (store_of chunks) [] steps → node_count_in chunks ≡ nodes tree
tree_nodes chunks apart n i kid tree steps shown walk distinct =
    let by = walk_law (store_of chunks) n i kid tree shown in
    used_once chunks apart [] steps distinct ∙ ap entered (one_walk_law (store_of chunks) n i kid steps by.0 walk by.1) ∙ by.3
