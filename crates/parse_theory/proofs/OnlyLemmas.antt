-- By lawful tables each tree of a name is the only one with its yield, since the name stands in a sentence's tree.
use Rattle.std.proofs.Common.{◌≡◌, ℕ, ◌<◌, List, [], ◌∷◌, ◌++◌, refl, sym, ap, subst}
use Rattle.grammar_data.specs.declared.rule.Sym.{Sym}
use Rattle.grammar_data.specs.declared.rule.Sym.TheVariants.{Token, Name}
use Rattle.grammar_data.specs.Grammar.{Rule, Grammar}
use Rattle.grammar_theory.specs.Rules.{IsRule, IsInRange, NamesBelow}
use Rattle.grammar_theory.specs.Trees.{Tree, Leaf, Node, Forest, NoTree, FirstTree, yield, yields, IsTree, token_tree, node_tree, AreTrees, no_tree, tree_first}
use Rattle.grammar_theory.specs.UsefulNames.{AllProductive, IsLedTo, at_start, in_right}
use Rattle.grammar_theory.proofs.RuleLemmas.{names_front, names_back}
use Rattle.grammar_theory.proofs.NameLaws.{productive_tree_law, reachable_law}
use Rattle.grammar_theory.proofs.UsefulLemmas.{Stands, stands, stands_in}
use Rattle.node_bounds.proofs.NodeLemmas.{node_bound_law}
use Rattle.table_data.specs.Tables.{Tables}
use Rattle.lawful_theory.specs.Lawful.{IsLawfulFor}
use Rattle.parse_theory.specs.Parses.{OnlyTreesLaw, TreeBoundLaw}
use Rattle.parse_theory.proofs.ReadLemmas.{one_tree_law}

-- trees in front of others
joined : Forest → Forest → Forest
joined NoTree others = others
joined (FirstTree tree trees) others = FirstTree tree (joined trees others)

are_joined : {rules : List Rule} {xs ys : List Sym} {trees others : Forest} → AreTrees rules xs trees → AreTrees rules ys others → AreTrees rules (xs ++ ys) (joined trees others)
unfolding joined
are_joined no_tree second = second
are_joined (tree_first is rest) second = tree_first is (are_joined rest second)

yields_joined : (trees others more : Forest) → yields others ≡ yields more → yields (joined trees others) ≡ yields (joined trees more)
unfolding joined
yields_joined NoTree others more e = e
yields_joined (FirstTree tree trees) others more e = ap (λ l. yield tree ++ l) (yields_joined trees others more e)

same_behind : (trees : Forest) {others more : Forest} → joined trees others ≡ joined trees more → others ≡ more
unfolding joined
same_behind NoTree e = e
same_behind (FirstTree tree trees) e = same_behind trees (rest_of e)
  where
    rest_of : {tree : Tree} {others more : Forest} → FirstTree tree others ≡ FirstTree tree more → others ≡ more
    rest_of e = cc

same_head : {tree other : Tree} {trees : Forest} → FirstTree tree trees ≡ FirstTree other trees → tree ≡ other
same_head e = cc

same_kids : {r : ℕ} {kids others : Forest} → Node r kids ≡ Node r others → kids ≡ others
same_kids e = cc

-- symbols of productive names have trees
some_trees : (g : Grammar) → AllProductive g → (xs : List Sym) → NamesBelow g.names xs → (trees : Forest) × AreTrees g.rules xs trees
some_trees g all [] below = (NoTree, no_tree)
some_trees g all (Token a ∷ xs) below =
    let rest = some_trees g all xs below in
    (FirstTree (Leaf (record { id = a; place = record { line = 0; start = 0; len = 0 } })) rest.0, tree_first (token_tree refl) rest.1)
some_trees g all (Name n ∷ xs) below =
    let rest = some_trees g all xs below.1 in
    let tree = (productive_tree_law g n).0 (all n below.0) in
    (FirstTree tree.0 rest.0, tree_first tree.1 rest.1)

-- all trees of a name are only
abbrev AllOnly : Grammar → ℕ → Type 0
AllOnly g n = (tree other : Tree) → IsTree g.rules (Name n) tree → IsTree g.rules (Name n) other → yield tree ≡ yield other → tree ≡ other

only_within : (g : Grammar) {m n r : ℕ} {right : List Sym} → IsInRange g → AllProductive g → AllOnly g m → IsRule g.rules r m right → Stands right (Name n) → AllOnly g n
only_within g {m} {n} {r} {right} range all only rule (stands before after at) tree other is too same =
    same_head (same_behind first.0 (same_kids (only (Node r (joined first.0 (FirstTree tree last.0))) (Node r (joined first.0 (FirstTree other last.0))) (whole is) (whole too)
    (yields_joined first.0 (FirstTree tree last.0) (FirstTree other last.0) (ap (λ l. l ++ yields last.0) same)))))
  where
    below : NamesBelow g.names (before ++ Name n ∷ after)
    below = subst (λ l. NamesBelow g.names l) at (range.names r m right rule)

    first : (trees : Forest) × AreTrees g.rules before trees
    first = some_trees g all before (names_front (λ k. k < g.names) before (Name n ∷ after) below)

    last : (trees : Forest) × AreTrees g.rules after trees
    last = some_trees g all after (names_back (λ k. k < g.names) before (Name n ∷ after) below).1

    whole : {u : Tree} → IsTree g.rules (Name n) u → IsTree g.rules (Name m) (Node r (joined first.0 (FirstTree u last.0)))
    whole {u} tree_of = node_tree rule (subst (λ l. AreTrees g.rules l (joined first.0 (FirstTree u last.0))) (sym at) (are_joined first.1 (tree_first tree_of last.1)))

led_only : {g : Grammar} {t : Tables} → IsLawfulFor g t → {n : ℕ} → IsLedTo g n → AllOnly g n
led_only {g} {t} lawful (at_start e) = subst (λ k. AllOnly g k) (sym e) (λ tree other is too same. one_tree_law g t lawful tree other is too same)
led_only {g} lawful (in_right {n = n} {right = right} led rule has) = only_within g lawful.range lawful.productive (led_only lawful led) rule (stands_in right (Name n) has)

pub only_trees_law : OnlyTreesLaw
only_trees_law g t lawful n tree below is = record {
  is_tree = is;
  only = λ other too same. led_only lawful ((reachable_law g n).0 (lawful.reachable n below)) other tree too is same;
}

pub tree_bound_law : TreeBoundLaw
tree_bound_law g t longest largest lawful bounds n tree below is = node_bound_law g longest largest lawful.range bounds (Name n) tree (only_trees_law g t lawful n tree below is)
