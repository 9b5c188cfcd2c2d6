-- Derivation trees. An inner node has a rule and one kid per symbol of its right side, in order: the kid of a token is
-- that token, the kid of a name an inner node with a rule of that name. The yield is the list of the tree's tokens from
-- left to right; tokens stand in a text, and their numbers are the token list that the symbols derive.
-- Source: Aho and Ullman, The Theory of Parsing, Translation, and Compiling, volume 1, section 2.4.1.
use Rattle.std.specs.Prelude.{◌≡◌, ℕ, suc, ◌+◌, ◌↔◌, List, [], ◌∷◌, ◌++◌, map}
use Rattle.grammar_data.specs.declared.rule.Sym.{Sym}
use Rattle.grammar_data.specs.declared.rule.Sym.TheVariants.{Token, Name}
use Rattle.grammar_data.specs.declared.token.Token.{Token as TextToken}
use Rattle.grammar_data.specs.Grammar.{Rule, Grammar}
use Rattle.grammar_theory.specs.Rules.{IsRule}
use Rattle.grammar_theory.specs.Derivations.{Derives, IsSentence}

-- a tree is a token or an inner node, which has the number of its rule and its kids
mutual
  pub data Tree : Type 0 where
    Leaf : TextToken → Tree
    Node : ℕ → Forest → Tree

  pub data Forest : Type 0 where
    NoTree : Forest
    FirstTree : Tree → Forest → Forest

-- the tokens from left to right
abbrev mutual
  pub yield : Tree → List TextToken
  yield (Leaf token) = token ∷ []
  yield (Node r kids) = yields kids

  pub yields : Forest → List TextToken
  yields NoTree = []
  yields (FirstTree tree trees) = yield tree ++ yields trees

-- how many inner nodes there are
abbrev mutual
  pub nodes : Tree → ℕ
  nodes (Leaf token) = 0
  nodes (Node r kids) = suc (nodes_of kids)

  pub nodes_of : Forest → ℕ
  nodes_of NoTree = 0
  nodes_of (FirstTree tree trees) = nodes tree + nodes_of trees

-- the numbers of tokens
abbrev pub ids_of : List TextToken → List ℕ
ids_of tokens = map (λ token. token.id) tokens

-- the tree is one of the symbol; the trees are one of each symbol, in order
mutual
  pub data IsTree (rules : List Rule) : Sym → Tree → Type 0 where
    token_tree : {a : ℕ} {token : TextToken} → token.id ≡ a → IsTree rules (Token a) (Leaf token)
    node_tree : {n r : ℕ} {right : List Sym} {kids : Forest} → IsRule rules r n right → AreTrees rules right kids → IsTree rules (Name n) (Node r kids)

  pub data AreTrees (rules : List Rule) : List Sym → Forest → Type 0 where
    no_tree : AreTrees rules [] NoTree
    tree_first : {x : Sym} {xs : List Sym} {tree : Tree} {trees : Forest} → IsTree rules x tree → AreTrees rules xs trees → AreTrees rules (x ∷ xs) (FirstTree tree trees)

-- the symbols derive the numbers of a token list exactly where trees of them yield the list
abbrev pub TreesLaw : Type 0
TreesLaw = (rules : List Rule) (xs : List Sym) (tokens : List TextToken) → Derives rules xs (ids_of tokens) ↔ ((trees : Forest) × AreTrees rules xs trees × (yields trees ≡ tokens))

-- a symbol derives the numbers of a token list exactly where a tree of it yields the list
abbrev pub TreeLaw : Type 0
TreeLaw = (rules : List Rule) (x : Sym) (tokens : List TextToken) → Derives rules (x ∷ []) (ids_of tokens) ↔ ((tree : Tree) × IsTree rules x tree × (yield tree ≡ tokens))

-- the numbers of a token list are a sentence exactly where it is the yield of a tree whose root has a rule of the start
abbrev pub SentenceLaw : Type 0
SentenceLaw = (g : Grammar) (tokens : List TextToken) → IsSentence g (ids_of tokens) ↔ ((tree : Tree) × IsTree g.rules (Name g.start) tree × (yield tree ≡ tokens))
