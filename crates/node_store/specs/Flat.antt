-- How flat lists hold the nodes of a chunk: the kids of all nodes stand one after another, and a node says where its own end.
use Rattle.std.specs.Prelude.{◌≡◌, ℕ, zero, suc, ◌-◌, ◌≤◌, List, [], ◌∷◌, length, take, drop}
use Rattle.std.specs.List.{flat_map}
use Rattle.node_data.specs.declared.kid.Kid.{Kid}
use Rattle.node_store.specs.declared.node.Node.{Node as FlatNode}
use Rattle.node_store.specs.declared.link.Link.{Link}
use Rattle.node_store.specs.Chunks.{Chunk, Node}
use Rattle.node_store.specs.Links.{AreNumbered}

-- the nodes, whose kids are taken from the front of the list one after another, and of which the first begin at `first`
abbrev pub cut : ℕ → List FlatNode → List Kid → List Node
cut first [] kids = []
cut first (node ∷ nodes) kids = (node.rule, take (node.end - first) kids) ∷ cut node.end nodes (drop (node.end - first) kids)

-- the kids of the first node begin at `first`, and no node's end before they begin; the last ones end at `end`
abbrev pub AreLaid : ℕ → List FlatNode → ℕ → Type 0
AreLaid first [] end = first ≡ end
AreLaid first (node ∷ nodes) end = (first ≤ node.end) × AreLaid node.end nodes end

-- where the kids of the node at a place begin
abbrev pub start_at : ℕ → List FlatNode → ℕ → ℕ
start_at first nodes zero = first
start_at first [] (suc place) = first
start_at first (node ∷ nodes) (suc place) = start_at node.end nodes place

-- what holds of the lists of a chunk: each kid belongs to one node, and each leaf to one kid
pub record AreLists (nodes : List FlatNode) (links : List Link) (leaves : List Kid) : Type 0 where
  pub laid : AreLaid 0 nodes (length links)
  pub numbered : AreNumbered 0 links (length leaves)

-- the kids of all nodes of a chunk, one after another
abbrev pub all_kids : Chunk → List Kid
all_kids chunk = flat_map (λ node. node.1) chunk.1
