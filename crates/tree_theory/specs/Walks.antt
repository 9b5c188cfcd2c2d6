-- Walks over what a store has below a kid, from left to right: a node is entered, its kids are walked over, and it is
-- left.
-- Source: the order is that of Aho and Ullman, The Theory of Parsing, Translation, and Compiling, volume 1, section 0.5.
use Rattle.std.specs.Prelude.{◌≡◌, ℕ, suc, List, [], ◌∷◌, ◌++◌, Some}
use Rattle.grammar_data.specs.declared.token.Token.{Token as TextToken}
use Rattle.grammar_theory.specs.Trees.{Tree, yield, nodes}
use Rattle.node_data.specs.declared.kid.Kid.{Kid}
use Rattle.node_data.specs.declared.kid.Kid.TheVariants.{Token, Node as NodeKid, Hidden}
use Rattle.tree_theory.specs.Stores.{Ref, Store, Shows}

-- a step of a walk
pub data Step : Type 0 where
  Enter : Ref → Step
  AtToken : TextToken → Step
  AtHidden : Ref → ℕ → Step
  Leave : Ref → Step

-- the walk over kid `i` of node `n`; over its kids from `i` on
mutual
  pub data Walks (store : Store) : Ref → ℕ → Kid → List Step → Type 0 where
    walks_token : {n : Ref} {i : ℕ} {token : TextToken} → Walks store n i (Token token) (AtToken token ∷ [])
    walks_hidden : {n : Ref} {i : ℕ} → Walks store n i Hidden (AtHidden n i ∷ [])
    walks_node : {n : Ref} {i : ℕ} {m : Ref} {r : ℕ} {inner steps : List Step} (kids : List Kid) → store m ≡ Some (r, kids) → WalksAll store m 0 kids inner → steps ≡ Enter m ∷ (inner ++ Leave m ∷ []) → Walks store n i (NodeKid m) steps

  pub data WalksAll (store : Store) : Ref → ℕ → List Kid → List Step → Type 0 where
    walks_none : {n : Ref} {i : ℕ} → WalksAll store n i [] []
    walks_more : {n : Ref} {i : ℕ} {kid : Kid} {kids : List Kid} {first rest steps : List Step} → Walks store n i kid first → WalksAll store n (suc i) kids rest → steps ≡ first ++ rest → WalksAll store n i (kid ∷ kids) steps

-- the tokens of a walk
abbrev pub tokens_in : List Step → List TextToken
tokens_in [] = []
tokens_in (Enter m ∷ steps) = tokens_in steps
tokens_in (AtToken token ∷ steps) = token ∷ tokens_in steps
tokens_in (AtHidden n i ∷ steps) = tokens_in steps
tokens_in (Leave m ∷ steps) = tokens_in steps

-- how many nodes a walk enters
abbrev pub entered : List Step → ℕ
entered [] = 0
entered (Enter m ∷ steps) = suc (entered steps)
entered (AtToken token ∷ steps) = entered steps
entered (AtHidden n i ∷ steps) = entered steps
entered (Leave m ∷ steps) = entered steps

-- a kid has one walk at most
abbrev pub OneWalkLaw : Type 0
OneWalkLaw = (store : Store) (n : Ref) (i : ℕ) (kid : Kid) (steps others : List Step) → Walks store n i kid steps → Walks store n i kid others → steps ≡ others

-- where a kid shows a tree with nothing supplied, it has a walk, whose tokens are the tree's yield, and which enters as
-- many nodes as the tree has
abbrev pub WalkLaw : Type 0
WalkLaw = (store : Store) (n : Ref) (i : ℕ) (kid : Kid) (tree : Tree) → Shows store [] n i kid tree → (steps : List Step) × Walks store n i kid steps × (tokens_in steps ≡ yield tree) × (entered steps ≡ nodes tree)
