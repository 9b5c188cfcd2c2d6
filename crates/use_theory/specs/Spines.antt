-- The nodes of the floors of a piece in the walk over its entries: they are entered one after another, the last floor's
-- node first, and no token stands before any of them. So what is put into their hidden kids stands before all tokens.
use Rattle.std.specs.Prelude.{◌≡◌, ℕ, ◌≤◌, List, [], ◌∷◌, ◌++◌}
use Rattle.tree_theory.specs.Stores.{Ref}
use Rattle.tree_theory.specs.Walks.{Step, Enter, tokens_in}
use Rattle.use_theory.specs.Counts.{times}
use Rattle.use_theory.specs.Fills.{Filled}
use Rattle.use_theory.specs.Distinct.{around}

-- the walk enters these nodes in this order, with no token before any of them
pub data IsSpine : List Ref → List Step → Type 0 where
  spine_end : {steps : List Step} → IsSpine [] steps
  spine_node : {m : Ref} {ms : List Ref} {steps : List Step} (before after : List Step) → steps ≡ before ++ Enter m ∷ after → tokens_in before ≡ [] → IsSpine ms after → IsSpine (m ∷ ms) steps

-- more steps come after; or before, where they have no token
abbrev pub SpineMoreLaw : Type 0
SpineMoreLaw = (ms : List Ref) (front steps more : List Step) → tokens_in front ≡ [] → IsSpine ms steps → IsSpine ms (front ++ (steps ++ more))

-- steps with no token are put in between, and any steps after
abbrev pub SpineInsideLaw : Type 0
SpineInsideLaw = (ms : List Ref) (front inner between after : List Step) → tokens_in between ≡ [] → IsSpine ms (front ++ inner) → IsSpine ms (front ++ (between ++ (inner ++ after)))

-- a node with hidden kids is put around all
abbrev pub SpineOpenedLaw : Type 0
SpineOpenedLaw = (m : Ref) (hidden : ℕ) (ms : List Ref) (steps : List Step) → IsSpine ms steps → IsSpine (m ∷ ms) (around m hidden steps)

-- the first floor's node, which is the last of the spine, gets the entries of the piece before as its last hidden kids:
-- their tokens then stand before all others, and their spine goes on from this one, without the node where it is filled
-- whole, and behind it where it is filled in part
abbrev pub SpineFilledLaw : Type 0
SpineFilledLaw = (ms : List Ref) (m : Ref) (still filled : ℕ) (inner steps steps1 : List Step) → IsSpine (ms ++ m ∷ []) steps → times m steps ≤ 1 → Filled m still filled inner steps steps1
    → (tokens_in steps1 ≡ tokens_in inner ++ tokens_in steps) × ((ns : List Ref) → IsSpine ns inner → IsSpine (ms ++ ns) steps1 × IsSpine (ms ++ m ∷ ns) steps1)
