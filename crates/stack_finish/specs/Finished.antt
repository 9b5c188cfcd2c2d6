-- What the end of a parse in parts answers, for a grammar for which the tables are lawful: as one parse from left to right
-- does, but that the nodes of the tree stand where the parts have made them.
-- Source: Knuth, On the Translation of Languages from Left to Right, 1965; Aho and Ullman, The Theory of Parsing,
-- Translation, and Compiling, volume 1, section 5.2.
use Rattle.std.specs.Prelude.{◌≡◌, ◌≢◌, ℕ, List, [], ◌∷◌, ◌++◌, AllPairs}
use Rattle.grammar_data.specs.declared.rule.Sym.TheVariants.{Name}
use Rattle.grammar_data.specs.declared.token.Token.{Token as TextToken}
use Rattle.grammar_data.specs.Grammar.{Grammar}
use Rattle.grammar_theory.specs.Trees.{Tree, IsTree, yield, nodes}
use Rattle.node_data.specs.declared.kid.Kid.TheVariants.{Node as NodeKid}
use Rattle.tree_theory.specs.Stores.{Ref, Store, Shows}
use Rattle.tree_theory.specs.Walks.{Step, Walks}
use Rattle.table_data.specs.Tables.{Tables}
use Rattle.use_theory.specs.Distinct.{IsDistinct}
use Rattle.use_theory.specs.Kept.{IsKept}
use Rattle.node_store.specs.Chunks.{Chunk, node_count_in, numbers_in, store_of}
use Rattle.plain_parse.specs.Parses.{IsWrongOf}
use Rattle.plain_parse.specs.declared.parsed.Parsed.{Parsed}
use Rattle.stack_finish.specs.declared.gathered.Gathered.{Gathered}
use Rattle.plain_parse.specs.declared.parsed.Parsed.TheVariants.{Tree as IsTreeAnswer, Wrong}

-- the root shows, with nothing supplied, a tree of the start that yields the tokens. The store keeps each node of the pieces
-- under its reference, with hidden kids filled; its chunks have these numbers, and each of its nodes stands exactly once in the
-- tree. So where the numbers differ, which they do in each store that is made by its calls, it has as many nodes as the tree
pub record IsTreeFrom (g : Grammar) (tokens : List TextToken) (base : Store) (numbers : List ℕ) (root : Ref) (store : List Chunk) : Type 0 where
  pub tree : Tree
  pub shown : (n : Ref) (i : ℕ) → Shows (store_of store) [] n i (NodeKid root) tree
  pub is_tree : IsTree g.rules (Name g.start) tree
  pub yields : yield tree ≡ tokens
  pub kept : IsKept base (store_of store)
  pub chunks : numbers_in store ≡ numbers
  pub steps : List Step
  pub walk : (n : Ref) (i : ℕ) → Walks (store_of store) n i (NodeKid root) steps
  pub each_once : IsDistinct (store_of store) [] steps
  pub count : AllPairs {X = ℕ} (λ a b. a ≢ b) numbers → node_count_in store ≡ nodes tree

-- the answer: such a tree, or the first wrong place as one parse from left to right tells it
abbrev pub IsAnswer : Grammar → Tables → List TextToken → Store → List ℕ → Parsed → Type 0
IsAnswer g t tokens base numbers (IsTreeAnswer root store) = IsTreeFrom g tokens base numbers root store
IsAnswer g t tokens base numbers (Wrong index token state) = IsWrongOf g t tokens index token state

-- the answer for the pieces of a store, which gets one chunk more
abbrev pub IsFinished : Grammar → Tables → List TextToken → List Chunk → ℕ → Parsed → Type 0
IsFinished g t tokens before chunk parsed = IsAnswer g t tokens (store_of before) (numbers_in before ++ chunk ∷ []) parsed

-- one kid is left, which is a node
abbrev pub HasRoot : Gathered → Type 0
HasRoot s = (root : Ref) × (s.kids.items ≡ NodeKid root ∷ [])

-- it is the root of the answer
abbrev pub IsRoot : Gathered → Parsed → Type 0
IsRoot s parsed = (root : Ref) → s.kids.items ≡ NodeKid root ∷ [] → parsed ≡ IsTreeAnswer root s.store
