-- How often a node stands in a list of nodes, and how often a walk enters it.
use Rattle.std.specs.Prelude.{◌≡◌, ℕ, ◌+◌, ◌<◌, ◌==◌, ◌↔◌, if◌then◌else◌, List, [], ◌∷◌, ◌++◌, Contains}
use Rattle.tree_theory.specs.Stores.{Ref}
use Rattle.tree_theory.specs.Walks.{Step, Enter, AtToken, AtHidden, Leave}

-- 1 where the two are one node, and else 0
abbrev pub sameness : Ref → Ref → ℕ
sameness m n = (if m.0 == n.0 then (if m.1 == n.1 then 1 else 0) else 0)

-- how often a node stands in a list
abbrev pub count_in : Ref → List Ref → ℕ
count_in m [] = 0
count_in m (n ∷ ns) = sameness m n + count_in m ns

-- the nodes that a walk enters, in their order
abbrev pub nodes_entered : List Step → List Ref
nodes_entered [] = []
nodes_entered (Enter m ∷ steps) = m ∷ nodes_entered steps
nodes_entered (AtToken token ∷ steps) = nodes_entered steps
nodes_entered (AtHidden n i ∷ steps) = nodes_entered steps
nodes_entered (Leave m ∷ steps) = nodes_entered steps

-- how often a walk enters a node
abbrev pub times : Ref → List Step → ℕ
times m steps = count_in m (nodes_entered steps)

-- a node that stands in a list is counted there, and no other
abbrev pub CountedLaw : Type 0
CountedLaw = (m : Ref) (ns : List Ref) → (0 < count_in m ns) ↔ Contains {X = Ref} ns m

-- of two lists one after the other, what stands in both is counted together
abbrev pub JoinedLaw : Type 0
JoinedLaw = (m : Ref) (ns others : List Ref) (steps more : List Step) → (count_in m (ns ++ others) ≡ count_in m ns + count_in m others) × (times m (steps ++ more) ≡ times m steps + times m more)
