-- What stays when a store changes: the nodes that a walk enters, and each node's rule and kids but for hidden ones that are
-- filled.
use Rattle.std.specs.Prelude.{◌≡◌, ◌≢◌, ℕ, ◌<◌, List, [], ◌∷◌, Some, None}
use Rattle.grammar_theory.specs.Trees.{Tree}
use Rattle.node_data.specs.declared.kid.Kid.{Kid}
use Rattle.node_data.specs.declared.kid.Kid.TheVariants.{Hidden}
use Rattle.tree_theory.specs.Stores.{Ref, Store, Supply, Shows}
use Rattle.tree_theory.specs.Walks.{Step, Walks, WalksAll}
use Rattle.use_theory.specs.Counts.{times}
use Rattle.use_theory.specs.Fills.{SuppliesPart}

-- the nodes that a walk enters are the same in another store
abbrev pub IsSame : Store → Store → List Step → Type 0
IsSame store new steps = (m : Ref) → 0 < times m steps → new m ≡ store m

-- kids are the same, but that some hidden ones are others
pub data AreFilled : List Kid → List Kid → Type 0 where
  no_kids : AreFilled [] []
  kid_stays : {kid : Kid} {kids others : List Kid} → AreFilled kids others → AreFilled (kid ∷ kids) (kid ∷ others)
  kid_filled : {kid : Kid} {kids others : List Kid} → AreFilled kids others → AreFilled (Hidden ∷ kids) (kid ∷ others)

-- each node of a store is one of the other, with its rule, and with its kids but for hidden ones that are filled
abbrev pub IsKept : Store → Store → Type 0
IsKept store new = (m : Ref) (r : ℕ) (kids : List Kid) → store m ≡ Some (r, kids) → (others : List Kid) × (new m ≡ Some (r, others)) × AreFilled kids others

-- where the nodes of a walk are the same, it is a walk there too
abbrev pub SameWalkLaw : Type 0
SameWalkLaw = (store new : Store) (n : Ref) (i : ℕ) (kids : List Kid) (steps : List Step) → IsSame store new steps → WalksAll store n i kids steps → WalksAll new n i kids steps

-- and what a kid shows, it shows there too
abbrev pub SameShownLaw : Type 0
SameShownLaw = (store new : Store) (supply : Supply) (n : Ref) (i : ℕ) (kid : Kid) (tree : Tree) (steps : List Step) → IsSame store new steps → Walks store n i kid steps → Shows store supply n i kid tree → Shows new supply n i kid tree

-- a store keeps its nodes; what a store keeps of one that kept others, it keeps of these
abbrev pub KeptThenLaw : Type 0
KeptThenLaw = (store mid new : Store) → IsKept store store × (IsKept store mid → IsKept mid new → IsKept store new)

-- nodes are kept where none changes, and where hidden kids of one are filled
abbrev pub KeptByLaw : Type 0
KeptByLaw = (store new : Store) → (((m : Ref) → store m ≢ None → new m ≡ store m) → IsKept store new) × ((m : Ref) (still : ℕ) (kids : List Kid) → SuppliesPart store new m still kids → IsKept store new)
