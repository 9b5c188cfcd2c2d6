-- The marked leaves of a tree: the tokens that are a part of a node whose rule declares that part, from left to right.
-- Parts are counted from 1.
use Rattle.std.specs.Prelude.{ℕ, suc, Bool, ◌==◌, if◌then◌else◌, List, [], ◌∷◌, ◌++◌, slice_get, unwrap_or}
use Rattle.std.specs.List.{list_any}
use Rattle.grammar_data.specs.declared.token.Token.{Token as TextToken}
use Rattle.grammar_theory.specs.Trees.{Tree, Leaf, Node, Forest, NoTree, FirstTree}
use Rattle.sheet_data.specs.Sheet.{Sheet}

-- whether the rule declares the part
abbrev pub is_declared : Sheet → ℕ → ℕ → Bool
is_declared sheet r i = list_any (λ place. place == i) (unwrap_or (slice_get sheet.declares r) [])

-- the leaf that part `i` of a node with rule `r` is, where it is one and is declared
abbrev pub leaf_at : Sheet → ℕ → ℕ → Tree → List TextToken
leaf_at sheet r i (Leaf token) = if is_declared sheet r i then token ∷ [] else []
leaf_at sheet r i (Node q kids) = []

-- the marked leaves of a tree; those of the parts from `i` on of a node with rule `r`, with all that is below them
abbrev mutual
  pub marked_leaves : Sheet → Tree → List TextToken
  marked_leaves sheet (Leaf token) = []
  marked_leaves sheet (Node r kids) = marked_among sheet r 1 kids

  pub marked_among : Sheet → ℕ → ℕ → Forest → List TextToken
  marked_among sheet r i NoTree = []
  marked_among sheet r i (FirstTree tree trees) = leaf_at sheet r i tree ++ (marked_leaves sheet tree ++ marked_among sheet r (suc i) trees)
