-- How a chunk finds its kids: nodes of its own by their places, and other kids among the leaves by their indices.
use Rattle.std.specs.Prelude.{◌≡◌, ℕ, ◌+◌, ◌*◌, ◌/◌, ◌%◌, ◌^◌, ◌<◌, ◌==◌, if◌then◌else◌, List, [], ◌∷◌, map, slice_index_or}
use Rattle.node_data.specs.declared.kid.Kid.{Kid}
use Rattle.node_data.specs.declared.kid.Kid.TheVariants.{Node as NodeKid, Hidden}
use Rattle.node_store.specs.declared.link.Link.{Link}
use Rattle.node_store.specs.declared.link.Link.TheVariants.{Node, Leaf}

-- an even number tells a node by its place, an odd one a leaf by its index
abbrev pub link_of : ℕ → Link
link_of bits = (if bits % 2 == 0 then Node (bits / 2) else Leaf (bits / 2))

abbrev pub bits_of : Link → ℕ
bits_of (Node place) = 2 * place
bits_of (Leaf index) = 2 * index + 1

-- the place or the index has 31 bits
abbrev pub CanLink : Link → Type 0
CanLink (Node place) = place < 2 ^ 31
CanLink (Leaf index) = index < 2 ^ 31

-- the kid that a link of a chunk of that number finds
abbrev pub kid_linked : ℕ → List Kid → Link → Kid
kid_linked number leaves (Node place) = NodeKid (number, place)
kid_linked number leaves (Leaf index) = slice_index_or leaves index Hidden

-- the kids that links find
abbrev pub linked : ℕ → List Kid → List Link → List Kid
linked number leaves links = map (kid_linked number leaves) links

-- the leaves that links find are all of those from the index `first` on to the index `end`, each once and in their order
abbrev pub AreNumbered : ℕ → List Link → ℕ → Type 0
AreNumbered first [] end = first ≡ end
AreNumbered first (Node place ∷ links) end = AreNumbered first links end
AreNumbered first (Leaf index ∷ links) end = (index ≡ first) × AreNumbered (first + 1) links end
