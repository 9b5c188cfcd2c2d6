-- The inner nodes of a tree that is the only one with its yield.
use Rattle.std.proofs.Common.{◌≡◌, ◌≢◌, ℕ, zero, suc, ◌+◌, ◌*◌, ◌<◌, ◌≤◌, ◌⊎◌, inl, inr, ⊎_elim, List, [], ◌∷◌, ◌++◌, Contains, length, refl, sym, ap, ◌∙◌, subst, append-nil, arith, eqb, eq-eqb, eqb-true}
use Rattle.std.specs.List.{AllPairs}
use Rattle.std.proofs.Math.Nat.{mul-suc, suc-mul, two-mul, mul_comm, mul_assoc, mul-le-mul_left, mul-le-mul_right}
use Rattle.std.proofs.lemmas.List.Elements.{All-contains_itself}
use Rattle.std.proofs.lemmas.List.Kept.{AllPairs-cons}
use Rattle.std.proofs.lemmas.Map.Made.{IsDistinct-from_AllPairs}
use Rattle.std.proofs.lemmas.Map.Steps.{length-le_from_distinct_below}
use Rattle.std.proofs.lemmas.Map.Views.{Contains-from_any}
use Rattle.grammar_data.specs.declared.rule.Sym.{Sym}
use Rattle.grammar_data.specs.declared.rule.Sym.TheVariants.{Name}
use Rattle.grammar_data.specs.declared.token.Token.{Token as TextToken}
use Rattle.grammar_data.specs.Grammar.{Rule, Grammar}
use Rattle.grammar_theory.specs.Rules.{IsRule, IsInRange}
use Rattle.grammar_theory.specs.Trees.{Tree, Leaf, Node, Forest, FirstTree, yield, yields, nodes, nodes_of, IsTree, token_tree, node_tree, AreTrees, no_tree, tree_first}
use Rattle.grammar_theory.proofs.NameLaws.{empty_tree_law}
use Rattle.node_bounds.specs.NodeBounds.{IsOnly, AreBounds, NodeBoundLaw}

-- ---- kids of an only tree are only

-- the trees are the only ones of the symbols with their yield
record AreOnly (rules : List Rule) (xs : List Sym) (trees : Forest) : Type 0 where
  only : (others : Forest) → AreTrees rules xs others → yields others ≡ yields trees → others ≡ trees

same_kids : {r : ℕ} {kids others : Forest} → Node r kids ≡ Node r others → kids ≡ others
same_kids e = cc

same_head : {tree other : Tree} {trees others : Forest} → FirstTree tree trees ≡ FirstTree other others → tree ≡ other
same_head e = cc

same_tail : {tree other : Tree} {trees others : Forest} → FirstTree tree trees ≡ FirstTree other others → trees ≡ others
same_tail e = cc

only_kids : {rules : List Rule} {m r : ℕ} {right : List Sym} {kids : Forest} → IsRule rules r m right → IsOnly rules (Name m) (Node r kids) → AreOnly rules right kids
only_kids rule is = record { only = λ others are same. same_kids (is.only (Node _ others) (node_tree rule are) same) }

only_first : {rules : List Rule} {x : Sym} {xs : List Sym} {tree : Tree} {trees : Forest} → IsTree rules x tree → AreTrees rules xs trees → AreOnly rules (x ∷ xs) (FirstTree tree trees) → IsOnly rules x tree
only_first {trees = trees} is are all = record { is_tree = is; only = λ other too same. same_head (all.only (FirstTree other trees) (tree_first too are) (ap (λ l. l ++ yields trees) same)) }

only_rest : {rules : List Rule} {x : Sym} {xs : List Sym} {tree : Tree} {trees : Forest} → IsTree rules x tree → AreOnly rules (x ∷ xs) (FirstTree tree trees) → AreOnly rules xs trees
only_rest {tree = tree} is all = record { only = λ others too same. same_tail (all.only (FirstTree tree others) (tree_first is too) (ap (λ l. yield tree ++ l) same)) }

-- ---- names of a chain

data AreNames (bound : ℕ) : List ℕ → Type 0 where
  no_name : AreNames bound []
  one_name : {m : ℕ} {names : List ℕ} → m < bound → (Contains names m → ⊥) → AreNames bound names → AreNames bound (m ∷ names)

contains_cases : (x : ℕ) (xs : List ℕ) {a : ℕ} → Contains (x ∷ xs) a → (x ≡ a) ⊎ Contains xs a
contains_cases x xs (zero, inside, at) = inl at
contains_cases x xs (suc k, inside, at) = inr (k, omega (arith, inside), at)

contains_none : {a : ℕ} → Contains [] a → ⊥
contains_none (k, inside, at) = omega (arith, inside)

name_below : {bound : ℕ} {names : List ℕ} → AreNames bound names → {m : ℕ} → Contains names m → m < bound
name_below no_name has = absurd (contains_none has)
name_below {bound} (one_name {m = n} {names = names} below new more) has =
    ⊎_elim (λ e. subst (λ k. k < bound) e below) (λ later. name_below more later) (contains_cases n names has)

names_differ : {bound : ℕ} {names : List ℕ} → AreNames bound names → AllPairs (λ x y. x ≢ y) names
names_differ no_name = λ i j d less inside. absurd (omega (arith, inside))
names_differ (one_name {m = m} {names = names} below new more) =
    AllPairs-cons (λ x y. x ≢ y) m names (λ k d inside e. new (subst (λ y. Contains names y) (sym e) (All-contains_itself names k d inside))) (names_differ more)

names_count : (bound : ℕ) (names : List ℕ) → AreNames bound names → length names ≤ bound
names_count bound names are =
    length-le_from_distinct_below names bound
    (IsDistinct-from_AllPairs {eq = eqb} (λ a b. (eqb-true a b, eq-eqb a b)) names (names_differ are))
    (λ q any. name_below are (Contains-from_any {eq = eqb} (λ x y. eqb-true x y) q names any))

-- ---- chains

-- an only tree of the name with the same yield has more nodes
record IsAbove (g : Grammar) (tree : Tree) (m : ℕ) : Type 0 where
  upper : Tree
  is_only : IsOnly g.rules (Name m) upper
  same : yield upper ≡ yield tree
  more : nodes tree < nodes upper
  below : m < g.names

data Chain (g : Grammar) (tree : Tree) : List ℕ → Type 0 where
  none_above : Chain g tree []
  one_above : {m : ℕ} {names : List ℕ} → IsAbove g tree m → (Contains names m → ⊥) → Chain g tree names → Chain g tree (m ∷ names)

above_down : {g : Grammar} {tree lower : Tree} {m : ℕ} → yield tree ≡ yield lower → nodes lower ≤ nodes tree → IsAbove g tree m → IsAbove g lower m
above_down same le above = record { upper = above.upper; is_only = above.is_only; same = above.same ∙ same; more = (let more = above.more in omega (arith, more, le)); below = above.below }

chain_down : {g : Grammar} {tree lower : Tree} {names : List ℕ} → yield tree ≡ yield lower → nodes lower ≤ nodes tree → Chain g tree names → Chain g lower names
chain_down same le none_above = none_above
chain_down same le (one_above above new more) = one_above (above_down same le above) new (chain_down same le more)

chain_names : {g : Grammar} {tree : Tree} {names : List ℕ} → Chain g tree names → AreNames g.names names
chain_names none_above = no_name
chain_names (one_above above new more) = one_name above.below new (chain_names more)

above_in : {g : Grammar} {tree : Tree} {names : List ℕ} → Chain g tree names → {m : ℕ} → Contains names m → IsAbove g tree m
above_in none_above has = absurd (contains_none has)
above_in {g} {tree} (one_above {m = n} {names = names} above new more) has =
    ⊎_elim (λ e. subst (λ (k : ℕ). IsAbove g tree k) e above) (λ later. above_in more later) (contains_cases n names has)

not_above : {g : Grammar} {tree : Tree} {m : ℕ} → IsTree g.rules (Name m) tree → IsAbove g tree m → ⊥
not_above {tree = tree} is above =
    let same = ap nodes (above.is_only.only tree is (sym above.same)) in
    let more = above.more in
    omega (arith, same, more)

-- ---- weights

-- twice a number for each token
weight : ℕ → List TextToken → ℕ
weight m [] = 0
weight m (token ∷ u) = m + m + weight m u

weight-append : (m : ℕ) (u v : List TextToken) → weight m (u ++ v) ≡ weight m u + weight m v
unfolding weight
weight-append m [] v = omega arith
weight-append m (token ∷ u) v = let rest = weight-append m u v in omega (arith, rest)

weight-length : (m total : ℕ) → total ≡ m + m → (u : List TextToken) → weight m u ≡ total * length u
unfolding weight
weight-length m total e [] = sym (mul_comm total 0 ∙ nothing total)
  where
    nothing : (k : ℕ) → 0 * k ≡ 0
    nothing k = omega arith
weight-length m total e (token ∷ u) =
    let rest = weight-length m total e u in
    let step = mul-suc total (length u) in
    omega (arith, rest, step, e)

weight_one : (m : ℕ) (token : TextToken) → weight m (token ∷ []) ≡ m + m
unfolding weight
weight_one m token = omega arith

weight_none : (m : ℕ) → weight m [] ≡ 0
unfolding weight
weight_none m = refl

by_yield : (u : List TextToken) → (u ≡ []) ⊎ (1 ≤ length u)
by_yield [] = inl refl
by_yield (token ∷ u) = inr (omega arith)

module _ (g : Grammar) (range : IsInRange g) (longest largest : ℕ) (bounds : AreBounds g longest largest) where
  -- what one node may have beside a kid, and the most on a way down
  abbrev around : ℕ
  around = 1 + longest * largest

  abbrev way : ℕ
  way = around * g.names

  -- each chain above the tree leaves so many nodes
  abbrev Claim : Tree → Type 0
  Claim tree = (names : List ℕ) → Chain g tree names → 1 ≤ length (yield tree) → nodes tree + around * length names + way ≤ weight way (yield tree)

  data Kids (xs : List Sym) (trees : Forest) : Type 0 where
    all_empty : yields trees ≡ [] → nodes_of trees ≤ length xs * largest → Kids xs trees
    one_full : (tree : Tree) → Claim tree → yield tree ≡ yields trees → 1 ≤ length (yield tree) → nodes tree ≤ nodes_of trees → nodes_of trees ≤ nodes tree + length xs * largest → Kids xs trees
    more_full : nodes_of trees + (way + way) ≤ weight way (yields trees) + length xs * largest → Kids xs trees

  -- the length of a chain's names is bounded
  chain_fits : {names : List ℕ} → AreNames g.names names → around * length names ≤ way
  chain_fits {names} are = mul-le-mul_left around (names_count g.names names are)

  chain_fits_one : {m : ℕ} {names : List ℕ} → AreNames g.names (m ∷ names) → around * length names + around ≤ way
  chain_fits_one {m} {names} are =
      let all = mul-le-mul_left around (names_count g.names (m ∷ names) are) in
      let step = mul-suc around (length names) in
      omega (arith, all, step)

  leaf_claim : (token : TextToken) → Claim (Leaf token)
  leaf_claim token names chain full =
      let fits = chain_fits (chain_names chain) in
      let one = weight_one way token in
      omega (arith, fits, one)

  side_fits : {r m : ℕ} {right : List Sym} → IsRule g.rules r m right → length right * largest ≤ longest * largest
  side_fits {r} {m} {right} rule = mul-le-mul_right largest (bounds.sides r m right rule)

  node_claim : {m r : ℕ} {right : List Sym} {kids : Forest} → IsRule g.rules r m right → IsOnly g.rules (Name m) (Node r kids) → Kids right kids → Claim (Node r kids)
  node_claim {m} {r} {right} {kids} rule is (all_empty none few) names chain full = let count = ap length none in absurd (omega (arith, count, full))
  node_claim {m} {r} {right} {kids} rule is (one_full tree claim same some le most) names chain full =
      let new : Contains names m → ⊥ = λ has. not_above is.is_tree (above_in chain has) in
      let above : IsAbove g tree m = record { upper = Node r kids; is_only = is; same = sym same; more = omega (arith, le); below = range.lefts r m right rule } in
      let bound = claim (m ∷ names) (one_above above new (chain_down (sym same) (omega (arith, le)) chain)) some in
      let step = mul-suc around (length names) in
      let side = side_fits rule in
      let line = ap (weight way) same in
      omega (arith, bound, step, side, line, most)
  node_claim {m} {r} {right} {kids} rule is (more_full most) names chain full =
      let new : Contains names m → ⊥ = λ has. not_above is.is_tree (above_in chain has) in
      let fits = chain_fits_one (one_name (range.lefts r m right rule) new (chain_names chain)) in
      let side = side_fits rule in
      omega (arith, fits, side, most)

  only_empty : {n : ℕ} {tree : Tree} → IsOnly g.rules (Name n) tree → yield tree ≡ [] → nodes tree ≤ largest
  only_empty {n} {tree} is none = bounds.sizes n (nodes tree) (record {
    some = (empty_tree_law g.rules (Name n) (nodes tree)).1 (tree, is.is_tree, none, refl);
    least = λ other gone. (let by = (empty_tree_law g.rules (Name n) other).0 gone in let same = ap nodes (is.only by.0 by.1 (by.2 ∙ sym none)) in let count = by.3 in omega (arith, same, count));
  })

  kids_empty : {x : Sym} {xs : List Sym} {tree : Tree} {trees : Forest} → yield tree ≡ [] → nodes tree ≤ largest → Kids xs trees → Kids (x ∷ xs) (FirstTree tree trees)
  kids_empty {xs = xs} {tree = tree} {trees = trees} none few (all_empty rest le) = all_empty (ap (λ l. l ++ yields trees) none ∙ rest) (let step = suc-mul (length xs) largest in omega (arith, step, few, le))
  kids_empty {xs = xs} {tree = tree} {trees = trees} none few (one_full other claim same some le most) =
      one_full other claim (same ∙ sym (ap (λ l. l ++ yields trees) none)) some (omega (arith, le)) (let step = suc-mul (length xs) largest in omega (arith, step, few, most))
  kids_empty {xs = xs} {tree = tree} {trees = trees} none few (more_full most) =
      more_full (let step = suc-mul (length xs) largest in let line = ap (λ l. weight way (l ++ yields trees)) none in omega (arith, step, few, most, line))

  kids_full : {x : Sym} {xs : List Sym} {tree : Tree} {trees : Forest} → Claim tree → 1 ≤ length (yield tree) → Kids xs trees → Kids (x ∷ xs) (FirstTree tree trees)
  kids_full {xs = xs} {tree = tree} {trees = trees} claim full (all_empty rest le) =
      one_full tree claim (sym (append-nil (yield tree)) ∙ ap (λ l. yield tree ++ l) (sym rest)) full (omega arith) (let step = suc-mul (length xs) largest in omega (arith, step, le))
  kids_full {xs = xs} {tree = tree} {trees = trees} claim full (one_full other again same some le most) =
      let first = claim [] none_above full in
      let second = again [] none_above some in
      let step = suc-mul (length xs) largest in
      let line = weight-append way (yield tree) (yields trees) in
      let alike = ap (weight way) same in
      more_full (omega (arith, first, second, step, line, alike, most))
  kids_full {xs = xs} {tree = tree} {trees = trees} claim full (more_full most) =
      let first = claim [] none_above full in
      let step = suc-mul (length xs) largest in
      let line = weight-append way (yield tree) (yields trees) in
      more_full (omega (arith, first, step, line, most))

  kids_node : {xs : List Sym} {n r : ℕ} {kids trees : Forest} → IsOnly g.rules (Name n) (Node r kids) → Claim (Node r kids) → Kids xs trees → Kids (Name n ∷ xs) (FirstTree (Node r kids) trees)
  kids_node {r = r} {kids = kids} is claim rest = ⊎_elim (λ none. kids_empty none (only_empty is none) rest) (λ full. kids_full claim full rest) (by_yield (yields kids))

  kids_of : {xs : List Sym} {trees : Forest} → AreTrees g.rules xs trees → AreOnly g.rules xs trees → Kids xs trees
  kids_of no_tree all = all_empty refl (omega arith)
  kids_of (tree_first (token_tree {token = token} e) rest) all = kids_full (leaf_claim token) (omega arith) (kids_of rest (only_rest (token_tree e) all))
  kids_of (tree_first (node_tree rule inner) rest) all =
      let is = only_first (node_tree rule inner) rest all in
      kids_node is (node_claim rule is (kids_of inner (only_kids rule is))) (kids_of rest (only_rest (node_tree rule inner) all))

  -- ---- the bound

  doubled : 2 * g.names * around ≡ way + way
  doubled = mul_assoc 2 g.names around ∙ two-mul (g.names * around) ∙ ap (λ k. k + k) (mul_comm g.names around)

  bound_full : (tree : Tree) → Claim tree → 1 ≤ length (yield tree) → nodes tree ≤ 2 * g.names * around * (length (yield tree) + 1)
  bound_full tree claim full =
      let most = claim [] none_above full in
      let line = weight-length way (2 * g.names * around) doubled (yield tree) in
      let step = mul-suc (2 * g.names * around) (length (yield tree)) in
      subst (λ k. nodes tree ≤ 2 * g.names * around * k) (plus_one (length (yield tree))) (omega (arith, most, line, step))
    where
      plus_one : (k : ℕ) → suc k ≡ k + 1
      plus_one k = omega arith

  few_nodes : {xs : List Sym} {trees : Forest} → Kids xs trees → yields trees ≡ [] → nodes_of trees ≤ length xs * largest
  few_nodes (all_empty none le) e = le
  few_nodes (one_full tree claim same some le most) e = let count = ap length (same ∙ e) in absurd (omega (arith, count, some))
  few_nodes (more_full most) e = let line = ap (weight way) e ∙ weight_none way in omega (arith, most, line)

  bound_empty : {m r : ℕ} {right : List Sym} {kids : Forest} → IsRule g.rules r m right → Kids right kids → yields kids ≡ [] → suc (nodes_of kids) ≤ 2 * g.names * around * (length (yields kids) + 1)
  bound_empty {m} {r} {right} {kids} rule all none =
      let few = few_nodes all none in
      let side = side_fits rule in
      let fits = chain_fits_one (one_name (range.lefts r m right rule) contains_none no_name) in
      let step = mul-suc (2 * g.names * around) (length (yields kids)) in
      let twice = doubled in
      subst (λ k. suc (nodes_of kids) ≤ 2 * g.names * around * k) (plus_one (length (yields kids))) (omega (arith, few, side, fits, step, twice))
    where
      plus_one : (k : ℕ) → suc k ≡ k + 1
      plus_one k = omega arith

  bound_node : {m r : ℕ} {right : List Sym} {kids : Forest} → IsRule g.rules r m right → AreTrees g.rules right kids → IsOnly g.rules (Name m) (Node r kids) → nodes (Node r kids) ≤ 2 * g.names * around * (length (yields kids) + 1)
  bound_node {m} {r} {right} {kids} rule inner is =
      let all = kids_of inner (only_kids rule is) in
      ⊎_elim (λ none. bound_empty rule all none) (λ full. bound_full (Node r kids) (node_claim rule is all) full) (by_yield (yields kids))

  bound_tree : {x : Sym} {tree : Tree} → IsTree g.rules x tree → IsOnly g.rules x tree → nodes tree ≤ 2 * g.names * around * (length (yield tree) + 1)
  bound_tree (token_tree e) is = omega arith
  bound_tree (node_tree rule inner) is = bound_node rule inner is

pub node_bound_law : NodeBoundLaw
node_bound_law g longest largest range bounds x tree is = bound_tree g range longest largest bounds is.is_tree is
