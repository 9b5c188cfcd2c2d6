-- What workers share that join neighbouring results without waiting for each other: a counter from which they claim
-- leaves, and a word at each boundary. A worker carries a range of leaves whose results are joined. Who comes first to a
-- boundary leaves its range waiting there; who comes second takes it, joins, and carries the range of both on.
-- Source: that the first to come to an inner node stops and the second goes on is from Karras, Maximizing Parallelism in
-- the Construction of BVHs, Octrees, and k-d Trees, 2012, section 4; the definitions here are this project's own.
use Rattle.std.specs.Prelude.{◌≡◌, ◌↔◌, ◌⊎◌, ℕ, ◌<◌, ◌≤◌, ◌^◌, Bool, true, false, if◌then◌else◌, ◌&&◌, nat_le, nat_lt, List, [], ◌∷◌, ◌++◌, All, Contains, count_by, slice_index_or}
use Rattle.core_theory.specs.Tree.{Range, whole_range, boundary_of, left_part, right_part, IsRange, IsNode, IsWithin}

-- a state: how many leaves there are; the counter; the word of boundary `b` at place `b` of a list, whose other places
-- mean nothing; the ranges that are carried; the ranges that wait; and whether the end was reached. The two lists stand
-- for collections: their order means nothing.
pub record CoreState : Type 0 where
  pub leaves : ℕ
  pub counter : ℕ
  pub words : List Bool
  pub carried : List Range
  pub waiting : List Range
  pub done : Bool

-- the word of a boundary
abbrev pub word_of : CoreState → ℕ → Bool
word_of s boundary = slice_index_or s.words boundary false

-- the live ranges: those that are carried or wait, and at the end the range of all leaves
abbrev pub live_ranges : CoreState → List Range
live_ranges s = s.carried ++ s.waiting ++ (if s.done then whole_range s.leaves ∷ [] else [])

-- how many of the ranges have the leaf
abbrev pub has_leaf : ℕ → Range → Bool
has_leaf leaf range = nat_le range.first leaf && nat_lt leaf range.last

abbrev pub times_held : List Range → ℕ → ℕ
times_held ranges leaf = count_by (has_leaf leaf) ranges

-- a part of the node waits
abbrev pub APartWaits : CoreState → Range → Type 0
APartWaits s node = Contains s.waiting (left_part node) ⊎ Contains s.waiting (right_part node)

-- the node lies within a live range
abbrev pub LiesInLive : CoreState → Range → Type 0
LiesInLive s node = (range : Range) × Contains (live_ranges s) range × IsWithin node range

-- a covered state: the live ranges are ranges of the tree, and each leaf below the counter is in exactly one of them, and
-- no other leaf in any; the word of a boundary is set exactly where a part of its node waits or its node lies within a
-- live range; at most one part of a node waits, and the range of all leaves never does; at the end nothing is carried or
-- waits. There are fewer leaves than a counter of 64 bits has values
pub record IsCovered (s : CoreState) : Type 0 where
  pub few : s.leaves < 2 ^ 64
  pub ranges : All (IsRange s.leaves) (live_ranges s)
  pub once : (leaf : ℕ) → leaf < s.counter → leaf < s.leaves → times_held (live_ranges s) leaf ≡ 1
  pub none : (leaf : ℕ) → (s.counter ≤ leaf) ⊎ (s.leaves ≤ leaf) → times_held (live_ranges s) leaf ≡ 0
  pub words : (node : Range) → IsNode s.leaves node → word_of s (boundary_of node) ≡ true ↔ (APartWaits s node ⊎ LiesInLive s node)
  pub one_part : (node : Range) → IsNode s.leaves node → ¬ (Contains s.waiting (left_part node) × Contains s.waiting (right_part node))
  pub not_whole : ¬ Contains s.waiting (whole_range s.leaves)
  pub ended : s.done ≡ true → (s.carried ≡ []) × (s.waiting ≡ [])
