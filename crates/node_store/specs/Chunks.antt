-- What contracts see of a store: its chunks in the order in which they came, each a number with its nodes, and each node the
-- number of its rule with its kids.
use Rattle.std.specs.Prelude.{◌≡◌, ◌≢◌, ℕ, ◌+◌, ◌<◌, ◌==◌, if◌then◌else◌, List, [], ◌∷◌, ◌++◌, length, map, Contains, slice_get, slice_set, Some, None, IsSome}
use Rattle.node_data.specs.declared.kid.Kid.{Kid}
use Rattle.node_data.specs.declared.kid.Kid.TheVariants.{Hidden}
use Rattle.tree_theory.specs.Stores.{Ref, Store}
use Rattle.node_store.specs.Slots.{IsIndexOf}

-- a node: the number of its rule, and its kids
abbrev pub Node : Type 0
Node = ℕ × List Kid

-- a chunk: its number, and its nodes
abbrev pub Chunk : Type 0
Chunk = ℕ × List Node

-- the numbers of the chunks
abbrev pub numbers_in : List Chunk → List ℕ
numbers_in chunks = map (λ chunk. chunk.0) chunks

abbrev pub HasChunk : List Chunk → ℕ → Type 0
HasChunk chunks number = Contains {X = ℕ} (numbers_in chunks) number

-- the nodes of the chunk of that number; none where there is no such chunk
abbrev pub nodes_in : List Chunk → ℕ → List Node
nodes_in [] number = []
nodes_in (chunk ∷ chunks) number = (if chunk.0 == number then chunk.1 else nodes_in chunks number)

-- the store of trees: the node at that place of the chunk of that number
abbrev pub store_of : List Chunk → Store
store_of chunks node = slice_get (nodes_in chunks node.0) node.1

-- how many nodes there are
abbrev pub node_count_in : List Chunk → ℕ
node_count_in [] = 0
node_count_in (chunk ∷ chunks) = length chunk.1 + node_count_in chunks

-- there is a node
abbrev pub IsNodeOf : List Chunk → Ref → Type 0
IsNodeOf chunks node = IsSome (store_of chunks node)

-- the chunks with other nodes in the chunk of that number
abbrev pub with_nodes : List Chunk → ℕ → List Node → List Chunk
with_nodes [] number nodes = []
with_nodes (chunk ∷ chunks) number nodes = (if chunk.0 == number then (chunk.0, nodes) ∷ chunks else chunk ∷ with_nodes chunks number nodes)

-- one node more, the last of the chunk of that number
pub record AddsNode (before now : List Chunk) (number rule : ℕ) (kids : List Kid) (node : Ref) : Type 0 where
  pub place : node ≡ (number, length (nodes_in before number))
  pub chunks : now ≡ with_nodes before number (nodes_in before number ++ (rule, kids) ∷ [])

-- what trees see of one node more
pub record StoresNode (before now : Store) (rule : ℕ) (kids : List Kid) (node : Ref) : Type 0 where
  pub none : before node ≡ None
  pub some : now node ≡ Some (rule, kids)
  pub kept : (m : Ref) (r : ℕ) (others : List Kid) → before m ≡ Some (r, others) → now m ≡ Some (r, others)
  pub others : (m : Ref) → m ≢ node → now m ≡ before m

-- what trees see where one kid of a node is another
pub record StoresKid (before now : Store) (node : Ref) (i : ℕ) (kid : Kid) : Type 0 where
  pub filled : (r : ℕ) (kids : List Kid) → before node ≡ Some (r, kids) → now node ≡ Some (r, slice_set kids i kid)
  pub others : (m : Ref) → m ≢ node → now m ≡ before m

-- no number is in both
abbrev pub AreApart : List Chunk → List Chunk → Type 0
AreApart chunks others = (number : ℕ) → HasChunk chunks number → HasChunk others number → ⊥

-- the kid at that place of a node is hidden
abbrev pub IsHiddenAt : List Chunk → Ref → ℕ → Type 0
IsHiddenAt chunks node i = (r : ℕ) × (kids : List Kid) × (store_of chunks node ≡ Some (r, kids)) × (slice_get kids i ≡ Some Hidden)

-- the kid at that place of a node is another
pub record SetsKid (before now : List Chunk) (node : Ref) (i : ℕ) (kid : Kid) : Type 0 where
  pub set : (r : ℕ) (kids : List Kid) → store_of before node ≡ Some (r, kids) → now ≡ with_nodes before node.0 (slice_set (nodes_in before node.0) node.1 (r, slice_set kids i kid))

-- what trees see of two stores together
pub record StoresBoth (first second now : Store) : Type 0 where
  pub of_first : (m : Ref) (r : ℕ) (kids : List Kid) → first m ≡ Some (r, kids) → now m ≡ Some (r, kids)
  pub of_second : (m : Ref) (r : ℕ) (kids : List Kid) → second m ≡ Some (r, kids) → now m ≡ Some (r, kids)
  pub of_none : (m : Ref) → first m ≡ None → second m ≡ None → now m ≡ None

-- what holds of a store: its slots find the chunks by their numbers, and its nodes are counted
pub record IsStore (chunks : List Chunk) (slots : List ℕ) (count : ℕ) : Type 0 where
  pub indexed : IsIndexOf slots (numbers_in chunks)
  pub counted : count ≡ node_count_in chunks

-- the chunk of that number stands at that place
pub record IsPlaceOf (chunks : List Chunk) (number place : ℕ) : Type 0 where
  pub inside : place < length chunks
  pub found : slice_get chunks place ≡ Some (number, nodes_in chunks number)
  pub set : (nodes : List Node) → slice_set chunks place (number, nodes) ≡ with_nodes chunks number nodes
