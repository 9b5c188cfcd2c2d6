-- The rules of trees.
use Rattle.std.proofs.Common.{◌≡◌, ℕ, ◌<◌, List, [], length, refl, sym, subst, arith}
use Rattle.std.proofs.lemmas.Option.{slice_get_within}
use Rattle.grammar_data.specs.declared.rule.Sym.{Sym}
use Rattle.grammar_data.specs.Grammar.{Rule}
use Rattle.grammar_theory.specs.Rules.{IsRule}
use Rattle.grammar_theory.specs.Trees.{Tree, Forest, IsTree, token_tree, node_tree, AreTrees, no_tree, tree_first}
use Rattle.node_data.specs.declared.kid.Kid.TheVariants.{Node as NodeKid}
use Rattle.node_store.specs.Chunks.{Chunk, store_of}
use Rattle.sheet_data.specs.Sheet.{Sheet}
use Rattle.tree_theory.specs.Stores.{Ref, IsSupply}
use Rattle.tree_theory.proofs.ShownLemmas.{one_shown_law}
use Rattle.templates.specs.Sources.{HasRules, HaveRules, HasTree, IsTreeAt, TreeRulesLaw}

known : {rules : List Rule} {r n : ℕ} {right : List Sym} → IsRule rules r n right → (sheet : Sheet) → sheet.grammar.rules ≡ rules → r < length sheet.grammar.rules
known {r = r} rule sheet same = subst (λ rules. r < length rules) (sym same) (slice_get_within _ _ _ rule.found)

mutual
  rules_in : {rules : List Rule} {x : Sym} {tree : Tree} → IsTree rules x tree → (sheet : Sheet) → sheet.grammar.rules ≡ rules → HasRules sheet tree
  rules_in (token_tree is) sheet same = tt
  rules_in (node_tree rule kids) sheet same = (known rule sheet same, all_rules_in kids sheet same)

  all_rules_in : {rules : List Rule} {xs : List Sym} {trees : Forest} → AreTrees rules xs trees → (sheet : Sheet) → sheet.grammar.rules ≡ rules → HaveRules sheet trees
  all_rules_in no_tree sheet same = tt
  all_rules_in (tree_first tree trees) sheet same = (rules_in tree sheet same, all_rules_in trees sheet same)

pub tree_rules : TreeRulesLaw
tree_rules sheet x tree is = rules_in is sheet refl

-- a node shows no other tree than the one that it is known to show
nothing_supplied : IsSupply []
nothing_supplied n trees others (k, inside, at) = absurd (omega (arith, inside))

pub rules_shown : (sheet : Sheet) (chunks : List Chunk) (node : Ref) → HasTree sheet chunks node → (tree : Tree) → IsTreeAt chunks node tree → HasRules sheet tree
rules_shown sheet chunks node has tree shows =
    let same : has.tree ≡ tree = one_shown_law (store_of chunks) [] nothing_supplied node 0 (NodeKid node) has.tree tree has.shown shows in
    subst (HasRules sheet) same has.rules
