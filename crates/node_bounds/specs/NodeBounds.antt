-- How many inner nodes a tree has. In a tree that is the only one of its symbol with its yield, no name stands twice on a
-- way down on which the yield stays the same, since the lower tree would be another one of that name. So there are at
-- most N such steps, N being the number of names, between two branches, and one branch fewer than tokens; what yields
-- nothing beside them is bounded by the longest right side and the largest empty size.
-- Source: Aho and Ullman, The Theory of Parsing, Translation, and Compiling, volume 1, section 2.4.
use Rattle.std.specs.Prelude.{◌≡◌, ℕ, ◌+◌, ◌*◌, ◌≤◌, List, length}
use Rattle.grammar_data.specs.declared.rule.Sym.{Sym}
use Rattle.grammar_data.specs.Grammar.{Rule, Grammar}
use Rattle.grammar_theory.specs.Rules.{IsRule, IsInRange}
use Rattle.grammar_theory.specs.Trees.{Tree, IsTree, yield, nodes}
use Rattle.grammar_theory.specs.EmptyNames.{HasEmptySize}

-- the tree is the only one of the symbol with its yield
pub record IsOnly (rules : List Rule) (x : Sym) (tree : Tree) : Type 0 where
  pub is_tree : IsTree rules x tree
  pub only : (other : Tree) → IsTree rules x other → yield other ≡ yield tree → other ≡ tree

-- no right side is longer, and no empty size larger
pub record AreBounds (g : Grammar) (longest largest : ℕ) : Type 0 where
  pub sides : (r n : ℕ) (right : List Sym) → IsRule g.rules r n right → length right ≤ longest
  pub sizes : (n size : ℕ) → HasEmptySize g n size → size ≤ largest

-- a tree that is the only one has at most 2 * N * (1 + R * E) * (n + 1) inner nodes, n being the number of its tokens, R
-- the length of the longest right side and E the largest empty size
abbrev pub NodeBoundLaw : Type 0
NodeBoundLaw = (g : Grammar) (longest largest : ℕ) → IsInRange g → AreBounds g longest largest → (x : Sym) (tree : Tree) → IsOnly g.rules x tree → nodes tree ≤ 2 * g.names * (1 + longest * largest) * (length (yield tree) + 1)
