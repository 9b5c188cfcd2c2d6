-- The laws of the tree, of the events and of the runs.
use Rattle.std.specs.Prelude.{◌≡◌, ◌⊎◌, ℕ, ◌<◌, ◌≤◌, ◌^◌, Bool, true, not, List, ◌++◌, AllPairs, Contains, ◌==◌, count_by}
use Rattle.std.specs.List.Sorted.{IsPermutation}
use Rattle.core_theory.specs.Tree.{Range, whole_range, leaf_range, boundary_of, part_of, IsRange, IsNode, IsParent, IsWithin, IsApart}
use Rattle.core_theory.specs.Core.{CoreState, word_of, live_ranges, LiesInLive, IsCovered}
use Rattle.core_theory.specs.Events.{IsReordered}
use Rattle.core_theory.specs.Runs.{IsStart, Event, IsStep, IsRun, claimed_by, leaves_claimed, joined_by, boundaries_joined}

-- of two ranges of the tree with a leaf in common, one is the other, or lies within a part of the other
abbrev pub NestedLaw : Type 0
NestedLaw = (leaves : ℕ) (range other : Range) (leaf : ℕ) → IsRange leaves range → IsRange leaves other → range.first ≤ leaf → leaf < range.last → other.first ≤ leaf → leaf < other.last → (range ≡ other) ⊎ ((is_left : Bool) × IsNode leaves range × IsWithin other (part_of range is_left)) ⊎ ((is_left : Bool) × IsNode leaves other × IsWithin range (part_of other is_left))

-- each boundary between leaves is that of a node
abbrev pub SomeNodeLaw : Type 0
SomeNodeLaw = (leaves boundary : ℕ) → 0 < boundary → boundary < leaves → (node : Range) × IsNode leaves node × (boundary_of node ≡ boundary)

-- and of no other
abbrev pub OneNodeLaw : Type 0
OneNodeLaw = (leaves : ℕ) (node other : Range) → IsNode leaves node → IsNode leaves other → boundary_of node ≡ boundary_of other → node ≡ other

-- a range of the tree other than all leaves is a part of a node
abbrev pub SomeParentLaw : Type 0
SomeParentLaw = (leaves : ℕ) (range : Range) → IsRange leaves range → ((range ≡ whole_range leaves) → ⊥) → (node : Range) × (is_left : Bool) × IsParent leaves range node is_left

-- of no other, and on no other side
abbrev pub OneParentLaw : Type 0
OneParentLaw = (leaves : ℕ) (range node other : Range) (is_left is_other_left : Bool) → IsParent leaves range node is_left → IsParent leaves range other is_other_left → (node ≡ other) × (is_left ≡ is_other_left)

-- each leaf is a range of the tree
abbrev pub LeafLaw : Type 0
LeafLaw = (leaves leaf : ℕ) → leaf < leaves → IsRange leaves (leaf_range leaf)

-- a start is covered
abbrev pub StartLaw : Type 0
StartLaw = (leaves : ℕ) (s : CoreState) → leaves < 2 ^ 64 → IsStart leaves s → IsCovered s

-- each event keeps a covered state covered
abbrev pub StepLaw : Type 0
StepLaw = (before : CoreState) (event : Event) (after : CoreState) → IsCovered before → IsStep before event after → IsCovered after

-- and so does another order of its lists
abbrev pub ReorderLaw : Type 0
ReorderLaw = (before after : CoreState) → IsCovered before → IsReordered before after → IsCovered after

-- in a covered state a carried range that comes to a boundary whose word is set finds the node's other part waiting
abbrev pub SiblingLaw : Type 0
SiblingLaw = (s : CoreState) (range node : Range) (is_left : Bool) → IsCovered s → Contains s.carried range → IsParent s.leaves range node is_left → word_of s (boundary_of node) ≡ true → Contains s.waiting (part_of node (not is_left))

-- the live ranges of a covered state have no leaf in common
abbrev pub ApartLaw : Type 0
ApartLaw = (s : CoreState) → IsCovered s → AllPairs IsApart (live_ranges s)

-- a covered state that is done has all leaves
abbrev pub DoneLaw : Type 0
DoneLaw = (s : CoreState) → IsCovered s → s.done ≡ true → s.leaves ≤ s.counter

-- after any events from a start the state is covered
abbrev pub CoveredRunLaw : Type 0
CoveredRunLaw = (leaves : ℕ) (start : CoreState) (events : List Event) (s : CoreState) → leaves < 2 ^ 64 → IsStart leaves start → IsRun start events s → IsCovered s

-- how often a number stands in a list
abbrev pub times_in : ℕ → List ℕ → ℕ
times_in number numbers = count_by (λ other. other == number) numbers

-- of the leaves in a list each one below the counter stands there once, and no other
pub record ClaimsOnce (s : CoreState) (claimed : List ℕ) (leaf : ℕ) : Type 0 where
  pub claimed_leaf : leaf < s.counter → leaf < s.leaves → times_in leaf claimed ≡ 1
  pub unclaimed_leaf : (s.counter ≤ leaf) ⊎ (s.leaves ≤ leaf) → times_in leaf claimed ≡ 0

-- each event keeps that of a list that takes up what it claims
abbrev pub ClaimStepLaw : Type 0
ClaimStepLaw = (before : CoreState) (event : Event) (after : CoreState) (claimed more : List ℕ) (leaf : ℕ) → IsCovered before → IsStep before event after → IsPermutation (claimed_by event ++ claimed) more → ClaimsOnce before claimed leaf → ClaimsOnce after more leaf

-- so the events from a start claim each leaf below the counter once, and no other
abbrev pub ClaimRunLaw : Type 0
ClaimRunLaw = (leaves : ℕ) (start : CoreState) (events : List Event) (s : CoreState) (leaf : ℕ) → leaves < 2 ^ 64 → IsStart leaves start → IsRun start events s → ClaimsOnce s (leaves_claimed events) leaf

-- of the boundaries in a list that of each node within a live range stands there once, and no other
pub record JoinsOnce (s : CoreState) (joined : List ℕ) (node : Range) : Type 0 where
  pub joined_node : LiesInLive s node → times_in (boundary_of node) joined ≡ 1
  pub unjoined_node : (LiesInLive s node → ⊥) → times_in (boundary_of node) joined ≡ 0

-- each event keeps that of a list that takes up what it joins
abbrev pub JoinStepLaw : Type 0
JoinStepLaw = (before : CoreState) (event : Event) (after : CoreState) (joined more : List ℕ) (node : Range) → IsCovered before → IsNode before.leaves node → IsStep before event after → IsPermutation (joined_by event ++ joined) more → JoinsOnce before joined node → JoinsOnce after more node

-- so the events from a start join the boundary of each node within a live range once, and no other
abbrev pub JoinRunLaw : Type 0
JoinRunLaw = (leaves : ℕ) (start : CoreState) (events : List Event) (s : CoreState) (node : Range) → leaves < 2 ^ 64 → IsStart leaves start → IsRun start events s → IsNode leaves node → JoinsOnce s (boundaries_joined events) node

-- where the end was reached each leaf was claimed once, and each boundary joined once
abbrev pub WholeRunLaw : Type 0
WholeRunLaw = (leaves : ℕ) (start : CoreState) (events : List Event) (s : CoreState) → leaves < 2 ^ 64 → IsStart leaves start → IsRun start events s → s.done ≡ true → ((leaf : ℕ) → leaf < leaves → times_in leaf (leaves_claimed events) ≡ 1) × ((boundary : ℕ) → 0 < boundary → boundary < leaves → times_in boundary (boundaries_joined events) ≡ 1)
