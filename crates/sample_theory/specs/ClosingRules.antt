-- How high trees have to be. The height of a tree that is a token is 0, and that of an inner node is 1 more than the
-- greatest height among its kids. The closing rule of a name is the rule of its least trees: the one with the least
-- number of those rules that have trees of the least height which trees of the name have.
use Rattle.std.specs.Prelude.{◌≡◌, ℕ, suc, max, ◌<◌, ◌≤◌, ◌↔◌, List, [], ◌∷◌}
use Rattle.grammar_data.specs.declared.rule.Sym.{Sym}
use Rattle.grammar_data.specs.declared.rule.Sym.TheVariants.{Token, Name}
use Rattle.grammar_data.specs.Grammar.{Rule, Grammar}
use Rattle.grammar_theory.specs.Rules.{IsRule}
use Rattle.grammar_theory.specs.Trees.{Tree, Leaf, Node, Forest, NoTree, FirstTree, AreTrees}
use Rattle.grammar_theory.specs.UsefulNames.{IsProductive}

-- the height of a tree, and the greatest among trees
abbrev mutual
  pub height : Tree → ℕ
  height (Leaf token) = 0
  height (Node r kids) = suc (greatest_height kids)

  pub greatest_height : Forest → ℕ
  greatest_height NoTree = 0
  greatest_height (FirstTree tree trees) = max (height tree) (greatest_height trees)

-- each symbol has a tree that is at most so high
pub data Closes (rules : List Rule) : ℕ → List Sym → Type 0 where
  no_symbol : {bound : ℕ} → Closes rules bound []
  token_closes : {bound a : ℕ} {xs : List Sym} → Closes rules bound xs → Closes rules bound (Token a ∷ xs)
  name_closes : {bound n r below : ℕ} {right xs : List Sym} → IsRule rules r n right → Closes rules below right → below < bound → Closes rules bound xs → Closes rules bound (Name n ∷ xs)

-- the rule, with this right side, is the closing rule of the name
pub record IsClosingRule (g : Grammar) (n r : ℕ) (right : List Sym) : Type 0 where
  pub rule : IsRule g.rules r n right
  -- the greatest height among the least trees of the right side's symbols
  pub bound : ℕ
  pub closes : Closes g.rules bound right
  pub least : (other height : ℕ) (side : List Sym) → IsRule g.rules other n side → Closes g.rules height side → bound ≤ height
  pub first : (other height : ℕ) (side : List Sym) → other < r → IsRule g.rules other n side → Closes g.rules height side → bound < height

-- symbols close within a bound exactly where trees of them are no higher
abbrev pub HeightLaw : Type 0
HeightLaw = (rules : List Rule) (bound : ℕ) (xs : List Sym) → Closes rules bound xs ↔ ((trees : Forest) × AreTrees rules xs trees × (greatest_height trees ≤ bound))

-- a name has one closing rule at most
abbrev pub OneClosingRuleLaw : Type 0
OneClosingRuleLaw = (g : Grammar) (n r other : ℕ) (right side : List Sym) → IsClosingRule g n r right → IsClosingRule g n other side → r ≡ other

-- it is refuted that a productive name has none
abbrev pub SomeClosingRuleLaw : Type 0
SomeClosingRuleLaw = (g : Grammar) (n : ℕ) → IsProductive g n → ((r : ℕ) (right : List Sym) → ¬ (IsClosingRule g n r right)) → ⊥
