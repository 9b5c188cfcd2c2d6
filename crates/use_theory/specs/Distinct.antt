-- Each node of a store is used once. A store holds the trees of the entries of some pieces of a parse, of which a floor's
-- node alone may have hidden kids: those whose trees the stack below the piece has. The walk over all entries, piece after
-- piece, enters each node of the store once, and no other; and the nodes of the floors are different nodes of the store,
-- among which are all that have a hidden kid.
use Rattle.std.specs.Prelude.{◌≡◌, ◌≢◌, ℕ, ◌<◌, ◌≤◌, ◌⊎◌, List, [], ◌∷◌, ◌++◌, length, replicate, Contains, Some, None}
use Rattle.node_data.specs.declared.kid.Kid.{Kid}
use Rattle.node_data.specs.declared.kid.Kid.TheVariants.{Hidden}
use Rattle.tree_theory.specs.Stores.{Ref, Store}
use Rattle.tree_theory.specs.Walks.{Step, Enter, Leave}
use Rattle.use_theory.specs.Counts.{count_in, times}
use Rattle.use_theory.specs.Fills.{holes, Filled, SuppliesPart}

-- `floors` are the nodes of the floors, `steps` is the walk over all entries
pub record IsDistinct (store : Store) (floors : List Ref) (steps : List Step) : Type 0 where
  pub once : (m : Ref) → times m steps ≤ 1
  pub used : (m : Ref) (r : ℕ) (kids : List Kid) → store m ≡ Some (r, kids) → 0 < times m steps
  pub there : (m : Ref) → 0 < times m steps → store m ≢ None
  pub hidden : (m : Ref) (r : ℕ) (kids : List Kid) → store m ≡ Some (r, kids) → Contains {X = Kid} kids Hidden → 0 < count_in m floors
  pub within : (m : Ref) → count_in m floors ≤ times m steps

-- one node is new, or has other kids, or is no longer a floor's: nothing else changes
pub record Renews (store new : Store) (m : Ref) (floors floors1 : List Ref) (steps steps1 : List Step) : Type 0 where
  pub rule : ℕ
  pub kids : List Kid
  pub is : new m ≡ Some (rule, kids)
  pub others : (n : Ref) → n ≢ m → new n ≡ store n
  pub walk : times m steps1 ≡ 1
  pub walk_others : (n : Ref) → n ≢ m → times n steps1 ≡ times n steps
  pub floor : count_in m floors1 ≤ 1
  pub floor_others : (n : Ref) → n ≢ m → count_in n floors1 ≡ count_in n floors
  pub hidden : Contains {X = Kid} kids Hidden → 0 < count_in m floors1

-- a store has the nodes of two others, which have none in common, and no other nodes
pub record Unites (first second new : Store) : Type 0 where
  pub of_first : (m : Ref) → first m ≢ None → new m ≡ first m
  pub of_second : (m : Ref) → second m ≢ None → new m ≡ second m
  pub each : (m : Ref) → new m ≢ None → (first m ≢ None) ⊎ (second m ≢ None)
  pub apart : (m : Ref) → first m ≢ None → second m ≢ None → ⊥

-- the walk over a node with its hidden kids before the walk over its other kids
abbrev pub around : Ref → ℕ → List Step → List Step
around m hidden steps = Enter m ∷ ((holes m 0 hidden ++ steps) ++ Leave m ∷ [])

-- where one node changes, each node is still used once
abbrev pub RenewedLaw : Type 0
RenewedLaw = (store new : Store) (m : Ref) (floors floors1 : List Ref) (steps steps1 : List Step) → Renews store new m floors floors1 steps steps1 → IsDistinct store floors steps → IsDistinct new floors1 steps1

-- a new node is put around the last entries of a piece: with no hidden kid, or with some and as the node of a new floor
abbrev pub GrownLaw : Type 0
GrownLaw = (store new : Store) (m : Ref) (r hidden : ℕ) (kids : List Kid) (floors floors1 : List Ref) (front inner after : List Step)
    → store m ≡ None → new m ≡ Some (r, kids) → ((n : Ref) → n ≢ m → new n ≡ store n)
    → count_in m floors1 ≤ 1 → ((n : Ref) → n ≢ m → count_in n floors1 ≡ count_in n floors) → (Contains {X = Kid} kids Hidden → 0 < count_in m floors1)
    → IsDistinct store floors (front ++ (inner ++ after)) → IsDistinct new floors1 (front ++ (around m hidden inner ++ after))

-- the last entries of a piece are taken off and become hidden kids of a node of the next piece
abbrev pub FilledLaw : Type 0
FilledLaw = (store new : Store) (m : Ref) (still : ℕ) (kids : List Kid) (floors floors1 : List Ref) (front keep inner steps steps1 after : List Step)
    → (part : SuppliesPart store new m still kids) → Filled m still (length kids) inner steps steps1 → 0 < times m steps
    → count_in m floors1 ≤ 1 → ((n : Ref) → n ≢ m → count_in n floors1 ≡ count_in n floors) → (Contains {X = Kid} (replicate still Hidden ++ (kids ++ part.further)) Hidden → 0 < count_in m floors1)
    → IsDistinct store floors (front ++ ((keep ++ inner) ++ (steps ++ after))) → IsDistinct new floors1 (front ++ (keep ++ (steps1 ++ after)))

-- two stores with no common node, one after the other
abbrev pub UnitedLaw : Type 0
UnitedLaw = (first second new : Store) (floors floors1 : List Ref) (steps steps1 : List Step) → Unites first second new → IsDistinct first floors steps → IsDistinct second floors1 steps1 → IsDistinct new (floors ++ floors1) (steps ++ steps1)

-- a node that is taken out of a list where it stands once is no longer there, and the others are as before
abbrev pub TakenOutLaw : Type 0
TakenOutLaw = (m : Ref) (front back : List Ref) → count_in m (front ++ m ∷ back) ≤ 1 → (count_in m (front ++ back) ≡ 0) × ((n : Ref) → n ≢ m → count_in n (front ++ back) ≡ count_in n (front ++ m ∷ back))
