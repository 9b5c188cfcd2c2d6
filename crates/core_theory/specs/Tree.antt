-- The join tree over leaves. Its root is the range of all leaves; a range of at least two leaves is split in the middle
-- into two parts, which are ranges of the tree again. The leaf that the right part begins with is the boundary of the
-- range. A range of one leaf is not split.
-- Source: this project's own.
use Rattle.std.specs.Prelude.{◌≡◌, ℕ, ◌+◌, ◌/◌, ◌<◌, ◌≤◌, Bool, if◌then◌else◌}

-- the leaves from `first` up to `last`, which is not among them
pub record Range : Type 0 where
  pub first : ℕ
  pub last : ℕ

-- the range of all leaves
abbrev pub whole_range : ℕ → Range
whole_range leaves = record { first = 0; last = leaves }

-- the range of one leaf
abbrev pub leaf_range : ℕ → Range
leaf_range leaf = record { first = leaf; last = leaf + 1 }

-- where a range is split
abbrev pub boundary_of : Range → ℕ
boundary_of range = (range.first + range.last) / 2

-- the parts of a range
abbrev pub left_part : Range → Range
left_part range = record { first = range.first; last = boundary_of range }

abbrev pub right_part : Range → Range
right_part range = record { first = boundary_of range; last = range.last }

abbrev pub part_of : Range → Bool → Range
part_of range is_left = (if is_left then left_part range else right_part range)

-- the range is one of the tree
pub data IsRange (leaves : ℕ) : Range → Type 0 where
  whole : 0 < leaves → IsRange leaves (whole_range leaves)
  part : {node : Range} (is_left : Bool) → IsRange leaves node → node.first + 2 ≤ node.last → IsRange leaves (part_of node is_left)

-- the range is one of the tree and is split: an inner node
pub record IsNode (leaves : ℕ) (node : Range) : Type 0 where
  pub range : IsRange leaves node
  pub split : node.first + 2 ≤ node.last

-- the range is the left or the right part of the node
pub record IsParent (leaves : ℕ) (range node : Range) (is_left : Bool) : Type 0 where
  pub inner : IsNode leaves node
  pub part : range ≡ part_of node is_left

-- each leaf of the first range is one of the second
pub record IsWithin (inner outer : Range) : Type 0 where
  pub from : outer.first ≤ inner.first
  pub upto : inner.last ≤ outer.last

-- the ranges have no leaf in common
pub record IsApart (range other : Range) : Type 0 where
  pub apart : (leaf : ℕ) → range.first ≤ leaf → leaf < range.last → other.first ≤ leaf → other.last ≤ leaf
