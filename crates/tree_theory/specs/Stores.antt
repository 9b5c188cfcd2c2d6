-- Trees in a store. A store has nodes, each with the number of its rule and its kids; a kid is a token, another node, or
-- hidden, as long as the tree that will stand there is known to what stands around the node alone. A supply says which
-- trees these are. A kid shows a tree under a store and a supply. Nothing else speaks of hidden kids: a tree has none, and
-- what a supply gives may be filled in later without a change of the tree.
-- Source: derivation trees as in Aho and Ullman, The Theory of Parsing, Translation, and Compiling, volume 1, section
-- 2.4.1; stores and supplies are this project's own.
use Rattle.std.specs.Prelude.{◌≡◌, ◌≢◌, ℕ, suc, List, [], ◌∷◌, Contains, slice_get, Option, Some}
use Rattle.grammar_data.specs.declared.token.Token.{Token as TextToken}
use Rattle.node_data.specs.declared.kid.Kid.{Kid}
use Rattle.node_data.specs.declared.kid.Kid.TheVariants.{Token, Node as NodeKid, Hidden}
use Rattle.grammar_theory.specs.Trees.{Tree, Leaf, Node, Forest, NoTree, FirstTree}

-- where a node stands: its chunk, and its place in the chunk
abbrev pub Ref : Type 0
Ref = ℕ × ℕ

-- the rule and the kids of each node
abbrev pub Store : Type 0
Store = Ref → Option (ℕ × List Kid)

-- the trees of the hidden kids of some nodes, by the number of the kid
abbrev pub Supply : Type 0
Supply = List (Ref × List Tree)

-- a supply has one list for a node at most
abbrev pub IsSupply : Supply → Type 0
IsSupply supply = (n : Ref) (trees others : List Tree) → Contains {X = Ref × List Tree} supply (n, trees) → Contains {X = Ref × List Tree} supply (n, others) → trees ≡ others

-- kid `i` of node `n` shows the tree; the kids from `i` on show the trees
mutual
  pub data Shows (store : Store) (supply : Supply) : Ref → ℕ → Kid → Tree → Type 0 where
    shows_token : {n : Ref} {i : ℕ} {token : TextToken} → Shows store supply n i (Token token) (Leaf token)
    shows_hidden : {n : Ref} {i : ℕ} {tree : Tree} (trees : List Tree) → Contains {X = Ref × List Tree} supply (n, trees) → slice_get trees i ≡ Some tree → Shows store supply n i Hidden tree
    shows_node : {n : Ref} {i : ℕ} {m : Ref} {r : ℕ} {trees : Forest} (kids : List Kid) → store m ≡ Some (r, kids) → ShowsAll store supply m 0 kids trees → Shows store supply n i (NodeKid m) (Node r trees)

  pub data ShowsAll (store : Store) (supply : Supply) : Ref → ℕ → List Kid → Forest → Type 0 where
    shows_none : {n : Ref} {i : ℕ} → ShowsAll store supply n i [] NoTree
    shows_more : {n : Ref} {i : ℕ} {kid : Kid} {kids : List Kid} {tree : Tree} {trees : Forest} → Shows store supply n i kid tree → ShowsAll store supply n (suc i) kids trees → ShowsAll store supply n i (kid ∷ kids) (FirstTree tree trees)

-- the kids of node `m` from `i` on are others in another store: those that aren't hidden are the same, and in the place of
-- a hidden one stands a kid that shows what was supplied for it
pub data Refits (supply : Supply) (store1 : Store) (supply1 : Supply) (m : Ref) : ℕ → List Kid → List Kid → Type 0 where
  refits_none : {i : ℕ} → Refits supply store1 supply1 m i [] []
  refits_same : {i : ℕ} {kid : Kid} {kids others : List Kid} → kid ≢ Hidden → Refits supply store1 supply1 m (suc i) kids others → Refits supply store1 supply1 m i (kid ∷ kids) (kid ∷ others)
  refits_hidden : {i : ℕ} {other : Kid} {kids others : List Kid} → ((trees : List Tree) (tree : Tree) → Contains {X = Ref × List Tree} supply (m, trees) → slice_get trees i ≡ Some tree → Shows store1 supply1 m i other tree) → Refits supply store1 supply1 m (suc i) kids others → Refits supply store1 supply1 m i (Hidden ∷ kids) (other ∷ others)

-- each node of the first store is one of the second, with its rule and with kids that refit
abbrev pub Keeps : Store → Supply → Store → Supply → Type 0
Keeps store supply store1 supply1 = (m : Ref) (r : ℕ) (kids : List Kid) → store m ≡ Some (r, kids) → (others : List Kid) × (store1 m ≡ Some (r, others)) × Refits supply store1 supply1 m 0 kids others

-- a kid shows one tree at most
abbrev pub OneShownLaw : Type 0
OneShownLaw = (store : Store) (supply : Supply) → IsSupply supply → (n : Ref) (i : ℕ) (kid : Kid) (tree other : Tree) → Shows store supply n i kid tree → Shows store supply n i kid other → tree ≡ other

-- a store that keeps the nodes shows the same trees
abbrev pub RefitLaw : Type 0
RefitLaw = (store store1 : Store) (supply supply1 : Supply) → Keeps store supply store1 supply1 → (n : Ref) (i : ℕ) (kid : Kid) (tree : Tree) → kid ≢ Hidden → Shows store supply n i kid tree → Shows store1 supply1 n i kid tree

-- more nodes and more supplies show the same trees
abbrev pub GrowLaw : Type 0
GrowLaw = (store store1 : Store) (supply supply1 : Supply) → ((m : Ref) (r : ℕ) (kids : List Kid) → store m ≡ Some (r, kids) → store1 m ≡ Some (r, kids)) → ((n : Ref) (trees : List Tree) → Contains {X = Ref × List Tree} supply (n, trees) → Contains {X = Ref × List Tree} supply1 (n, trees)) → (n : Ref) (i : ℕ) (kid : Kid) (tree : Tree) → Shows store supply n i kid tree → Shows store1 supply1 n i kid tree
