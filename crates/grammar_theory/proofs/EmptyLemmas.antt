-- Nullable names, empty trees and their sizes.
use Rattle.std.proofs.Common.{◌≡◌, ℕ, suc, ◌+◌, Bool, IsTrue, List, [], ◌∷◌, ◌++◌, refl, sym, ap, ◌∙◌, subst, arith}
use Rattle.grammar_data.specs.declared.rule.Sym.{Sym}
use Rattle.grammar_data.specs.declared.rule.Sym.TheVariants.{Token, Name}
use Rattle.grammar_data.specs.Grammar.{Rule, Grammar}
use Rattle.grammar_theory.specs.Rules.{IsRule, OnlyNames}
use Rattle.grammar_theory.specs.Derivations.{Derives, done, token_first, name_first}
use Rattle.grammar_theory.specs.Trees.{Forest, yields, nodes_of, token_tree, node_tree, AreTrees, no_tree, tree_first}
use Rattle.grammar_theory.specs.EmptyNames.{IsNullable, Vanishes, no_symbol, name_gone, IsNullableTest}
use Rattle.grammar_theory.proofs.DerivationLemmas.{ByRule, by_rule, derives_by_rule, derives_name}

pub nil_parts : {X : Type 0} (u v : List X) → u ++ v ≡ [] → (u ≡ []) × (v ≡ [])
nil_parts [] v e = (refl, e)
nil_parts (a ∷ u) v e = absurd (cc)

-- ---- nullable

pub names_nullable : (g : Grammar) {xs : List Sym} {w : List ℕ} → Derives g.rules xs w → w ≡ [] → OnlyNames (IsNullable g) xs
names_nullable g done e = tt
names_nullable g (token_first d) e = absurd (cc)
names_nullable g (name_first {right = right} {u = u} {v = v} rule d rest at) e =
    (derives_name rule (subst (λ l. Derives g.rules right l) (nil_parts u v (sym at ∙ e)).0 d), names_nullable g rest (nil_parts u v (sym at ∙ e)).1)

name_vanishes : {rules : List Rule} {n : ℕ} {xs : List Sym} → ByRule rules n [] → Derives rules xs [] → Derives rules (Name n ∷ xs) []
name_vanishes (by_rule rule d) rest = name_first rule d rest refl

pub derives_nullable : (g : Grammar) (xs : List Sym) → OnlyNames (IsNullable g) xs → Derives g.rules xs []
derives_nullable g [] all = done
derives_nullable g (Token a ∷ xs) all = absurd all
derives_nullable g (Name n ∷ xs) all = name_vanishes (derives_by_rule all.0) (derives_nullable g xs all.1)

rule_of_nullable : (g : Grammar) (n : ℕ) → ByRule g.rules n [] → (r : ℕ) × (right : List Sym) × IsRule g.rules r n right × OnlyNames (IsNullable g) right
rule_of_nullable g n (by_rule {r = r} {right = right} rule d) = (r, right, rule, names_nullable g d refl)

pub nullable_rule : (g : Grammar) (n : ℕ) → IsNullable g n → (r : ℕ) × (right : List Sym) × IsRule g.rules r n right × OnlyNames (IsNullable g) right
nullable_rule g n d = rule_of_nullable g n (derives_by_rule d)

pub nullable_by_rule : (g : Grammar) {n r : ℕ} (right : List Sym) → IsRule g.rules r n right → OnlyNames (IsNullable g) right → IsNullable g n
nullable_by_rule g right rule all = derives_name rule (derives_nullable g right all)

pub knows_nullable : {g : Grammar} {known : ℕ → Bool} → IsNullableTest g known → {xs : List Sym} {w : List ℕ} → Derives g.rules xs w → w ≡ [] → OnlyNames (λ m. IsTrue (known m)) xs
knows_nullable test done e = tt
knows_nullable test (token_first d) e = absurd (cc)
knows_nullable test (name_first {n = n} {r = r} {right = right} {u = u} {v = v} rule d rest at) e =
    (test.closed r n right rule (knows_nullable test d (nil_parts u v (sym at ∙ e)).0), knows_nullable test rest (nil_parts u v (sym at ∙ e)).1)

-- ---- empty trees

-- the symbols vanish by some number of inner nodes
pub data VanishesSome (rules : List Rule) (xs : List Sym) : Type 0 where
  vanishes_some : {k : ℕ} → Vanishes rules xs k → VanishesSome rules xs

some_gone : {rules : List Rule} {n r : ℕ} {right xs : List Sym} → IsRule rules r n right → VanishesSome rules right → VanishesSome rules xs → VanishesSome rules (Name n ∷ xs)
some_gone rule (vanishes_some d) (vanishes_some rest) = vanishes_some (name_gone rule d rest refl)

pub vanishes_of_derives : {rules : List Rule} {xs : List Sym} {w : List ℕ} → Derives rules xs w → w ≡ [] → VanishesSome rules xs
vanishes_of_derives done e = vanishes_some no_symbol
vanishes_of_derives (token_first d) e = absurd (cc)
vanishes_of_derives (name_first {u = u} {v = v} rule d rest at) e =
    some_gone rule (vanishes_of_derives d (nil_parts u v (sym at ∙ e)).0) (vanishes_of_derives rest (nil_parts u v (sym at ∙ e)).1)

pub derives_of_vanishes : {rules : List Rule} {xs : List Sym} {k : ℕ} → Vanishes rules xs k → Derives rules xs []
derives_of_vanishes no_symbol = done
derives_of_vanishes (name_gone rule d rest at) = name_first rule (derives_of_vanishes d) (derives_of_vanishes rest) refl

-- trees of the symbols that are empty and have so many inner nodes
pub data AreEmpty (rules : List Rule) (xs : List Sym) (k : ℕ) : Type 0 where
  are_empty : {trees : Forest} → AreTrees rules xs trees → yields trees ≡ [] → nodes_of trees ≡ k → AreEmpty rules xs k

empty_gone : {rules : List Rule} {n r i j k : ℕ} {right xs : List Sym} → IsRule rules r n right → AreEmpty rules right i → AreEmpty rules xs j → k ≡ suc (i + j) → AreEmpty rules (Name n ∷ xs) k
empty_gone rule (are_empty {trees = kids} inner none count) (are_empty {trees = trees} rest none_there count_there) at =
    are_empty (tree_first (node_tree rule inner) rest) (ap (λ l. l ++ yields trees) none ∙ none_there) (omega arith)

pub trees_of_vanishes : {rules : List Rule} {xs : List Sym} {k : ℕ} → Vanishes rules xs k → AreEmpty rules xs k
trees_of_vanishes no_symbol = are_empty no_tree refl refl
trees_of_vanishes (name_gone rule d rest at) = empty_gone rule (trees_of_vanishes d) (trees_of_vanishes rest) at

pub vanishes_of_trees : {rules : List Rule} {xs : List Sym} {trees : Forest} → AreTrees rules xs trees → yields trees ≡ [] → {k : ℕ} → nodes_of trees ≡ k → Vanishes rules xs k
vanishes_of_trees {rules} no_tree e count = subst (λ m. Vanishes rules [] m) count no_symbol
vanishes_of_trees (tree_first {trees = trees} (token_tree {token = token} at) rest) e count = absurd (cc)
vanishes_of_trees (tree_first {trees = trees} (node_tree {kids = kids} rule inner) rest) e count =
    name_gone rule (vanishes_of_trees inner (nil_parts (yields kids) (yields trees) e).0 refl) (vanishes_of_trees rest (nil_parts (yields kids) (yields trees) e).1 refl) (omega arith)
