-- The laws on names, as they are stated.
use Rattle.std.proofs.Common.{◌≡◌, ℕ, List, [], ◌∷◌, map, refl, sym, ap, ◌∙◌, subst, inl, inr, ◌⊎◌, add-zero, append-nil}
use Rattle.grammar_data.specs.declared.rule.Sym.{Sym}
use Rattle.grammar_data.specs.declared.rule.Sym.TheVariants.{Name}
use Rattle.grammar_data.specs.declared.token.Token.{Token as TextToken}
use Rattle.grammar_data.specs.Grammar.{Rule, Grammar}
use Rattle.grammar_theory.specs.Rules.{OnlyNames}
use Rattle.grammar_theory.specs.Derivations.{Derives}
use Rattle.grammar_theory.specs.Trees.{Tree, Forest, yield, yields, nodes, nodes_of, ids_of, IsTree, AreTrees, no_tree, tree_first}
use Rattle.grammar_theory.specs.UsefulNames.{IsProductive, ProductiveTreeLaw, ProductiveRuleLaw, ProductiveTestLaw, ReachableLaw, ReachableTestLaw}
use Rattle.grammar_theory.specs.EmptyNames.{IsNullable, Vanishes, EmptyTreeLaw, NullableSizeLaw, OneSizeLaw, NullableRuleLaw, NullableListLaw, NullableTestLaw, FirstRoundLaw, RoundLaw, NextRoundLaw, UnsizedLaw}
use Rattle.grammar_theory.specs.FirstTokens.{FirstHas, FirstOnlyLaw, FirstLaw, FollowsOnlyLaw, FollowsLaw, FoundPartsLaw, FirstRuleOnlyLaw, FirstRuleLaw, FirstTableLaw, IsFirst, IsFound}
use Rattle.grammar_theory.proofs.DerivationLaws.{tree_law}
use Rattle.grammar_theory.proofs.UsefulLemmas.{productive_rule, productive_by_rule, knows_productive, led_reachable, reachable_led, knows_reachable}
use Rattle.grammar_theory.proofs.EmptyLemmas.{AreEmpty, are_empty, VanishesSome, vanishes_some, names_nullable, derives_nullable, nullable_rule, nullable_by_rule, knows_nullable, vanishes_of_derives, derives_of_vanishes, trees_of_vanishes, vanishes_of_trees}
use Rattle.grammar_theory.proofs.SizeLemmas.{one_size, first_round, sized_next, next_sized, next_round, unsized_above}
use Rattle.grammar_theory.proofs.FirstLemmas.{found_first, first_begins, found_following, found_follows, found_parts, found_of_first, found_of_end, first_rule, first_by_rule, knows_first}

-- ---- productive and reachable names

-- any place in a text serves as a token's
some_token : ℕ → TextToken
some_token a = record { id = a; place = record { line = 1; start = 0; len = 0 } }

some_tokens : List ℕ → List TextToken
some_tokens w = map some_token w

ids_of_some : (w : List ℕ) → ids_of (some_tokens w) ≡ w
unfolding some_tokens some_token
ids_of_some [] = refl
ids_of_some (a ∷ w) = ap (λ l. a ∷ l) (ids_of_some w)

tree_of_productive : (g : Grammar) (n : ℕ) (w : List ℕ) → Derives g.rules (Name n ∷ []) w → (tree : Tree) × IsTree g.rules (Name n) tree
tree_of_productive g n w d =
    let found = (tree_law g.rules (Name n) (some_tokens w)).0 (subst (λ l. Derives g.rules (Name n ∷ []) l) (sym (ids_of_some w)) d) in
    (found.0, found.1)

productive_of_tree : (g : Grammar) (n : ℕ) (tree : Tree) → IsTree g.rules (Name n) tree → IsProductive g n
productive_of_tree g n tree is = (ids_of (yield tree), (tree_law g.rules (Name n) (yield tree)).1 (tree, is, refl))

pub productive_tree_law : ProductiveTreeLaw
productive_tree_law g n = (λ p. tree_of_productive g n p.0 p.1, λ t. productive_of_tree g n t.0 t.1)

pub productive_rule_law : ProductiveRuleLaw
productive_rule_law g n = (λ p. productive_rule g n p, λ r. productive_by_rule g r.1 r.2 r.3)

pub productive_test_law : ProductiveTestLaw
productive_test_law g known test n = (λ k. test.sound n k, λ p. (knows_productive test p.1).0)

pub reachable_law : ReachableLaw
reachable_law g n = (λ r. led_reachable g n r, λ l. reachable_led g l)

pub reachable_test_law : ReachableTestLaw
reachable_test_law g known test n = (λ k. test.sound n k, λ r. knows_reachable test (led_reachable g n r))

-- ---- nullable names and empty sizes

pub nullable_rule_law : NullableRuleLaw
nullable_rule_law g n = (λ d. nullable_rule g n d, λ r. nullable_by_rule g r.1 r.2 r.3)

pub nullable_list_law : NullableListLaw
nullable_list_law g xs = (λ d. names_nullable g d refl, λ all. derives_nullable g xs all)

pub nullable_test_law : NullableTestLaw
nullable_test_law g known test n = (λ k. test.sound n k, λ d. (knows_nullable test d refl).0)

size_of_some : {rules : List Rule} {xs : List Sym} → VanishesSome rules xs → (k : ℕ) × Vanishes rules xs k
size_of_some (vanishes_some {k = k} d) = (k, d)

pub nullable_size_law : NullableSizeLaw
nullable_size_law g n = (λ d. size_of_some (vanishes_of_derives d refl), λ v. derives_of_vanishes v.1)

only_empty : {rules : List Rule} {x : Sym} {xs : List Sym} {trees : Forest} {k : ℕ} → xs ≡ [] → AreTrees rules (x ∷ xs) trees → yields trees ≡ [] → nodes_of trees ≡ k → (tree : Tree) × IsTree rules x tree × (yield tree ≡ []) × (nodes tree ≡ k)
only_empty e (tree_first {tree = tree} is no_tree) at count = (tree, is, sym (append-nil (yield tree)) ∙ at, sym (add-zero (nodes tree)) ∙ count)
only_empty e (tree_first is (tree_first other others)) at count = absurd (cc)

tree_of_empty : {rules : List Rule} {x : Sym} {k : ℕ} → AreEmpty rules (x ∷ []) k → (tree : Tree) × IsTree rules x tree × (yield tree ≡ []) × (nodes tree ≡ k)
tree_of_empty (are_empty are at count) = only_empty refl are at count

pub empty_tree_law : EmptyTreeLaw
empty_tree_law rules x k = (λ d. tree_of_empty (trees_of_vanishes d), λ t. vanishes_of_trees (tree_first t.1 no_tree) (append-nil (yield t.0) ∙ t.2) (add-zero (nodes t.0) ∙ t.3))

pub one_size_law : OneSizeLaw
one_size_law g n i j h k = one_size g n i j h k

pub first_round_law : FirstRoundLaw
first_round_law g size none = first_round g size none

pub round_law : RoundLaw
round_law g k size table n = (λ h. sized_next g k size table n h, λ r. next_sized g k size table n r.0 r.1)

pub next_round_law : NextRoundLaw
next_round_law g k size next table round = next_round g k size next table round

pub unsized_law : UnsizedLaw
unsized_law g bound size table n k none d = unsized_above g bound size table n k none d

-- ---- first tokens

pub first_only_law : FirstOnlyLaw
first_only_law g xs b h = found_first g h.1 refl

pub first_law : FirstLaw
first_law g all xs below b = (λ h. first_only_law g xs b h, λ h. first_begins g all xs below b h)

pub follows_only_law : FollowsOnlyLaw
follows_only_law g xs a b h = found_following g xs a h.1 refl

pub follows_law : FollowsLaw
follows_law g all xs below a b = (λ h. follows_only_law g xs a b h, λ h. found_follows g all xs below a b h)

found_of_parts : (g : Grammar) (xs : List Sym) (a b : ℕ) → IsFirst g xs b ⊎ (OnlyNames (IsNullable g) xs × (b ≡ a)) → IsFound g xs a b
found_of_parts g xs a b (inl h) = found_of_first (FirstHas g) (IsNullable g) xs a b h
found_of_parts g xs a b (inr h) = found_of_end (FirstHas g) (IsNullable g) xs a b h.0 h.1

pub found_parts_law : FoundPartsLaw
found_parts_law g xs a b = (λ h. found_parts (FirstHas g) (IsNullable g) xs a b h, λ h. found_of_parts g xs a b h)

pub first_rule_only_law : FirstRuleOnlyLaw
first_rule_only_law g n a h = first_rule g n a h

pub first_rule_law : FirstRuleLaw
first_rule_law g range all n a = (λ h. first_rule g n a h, λ r. first_by_rule g range all r.1 r.2 r.3)

only_first : {X Y : Type 0} → X ⊎ (Y × ⊥) → X
only_first (inl x) = x
only_first (inr y) = absurd y.1

pub first_table_law : FirstTableLaw
first_table_law g null first table n a = (λ k. table.sound n a k, λ h. only_first (knows_first table h.1 refl))
