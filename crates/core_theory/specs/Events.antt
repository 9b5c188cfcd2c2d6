-- The events of the core, each as a relation between the state before and the state after it. A relation says when the
-- event may come, what it answers, and what it changes. Lists of ranges stand for collections, so each is known up to its
-- order alone.
use Rattle.std.specs.Prelude.{◌≡◌, ℕ, ◌+◌, ◌-◌, ◌<◌, ◌^◌, min, Bool, true, false, not, if◌then◌else◌, ◌∷◌, ◌++◌, map, Option, SomeIff, option_to_list, ◌==◌}
use Rattle.std.specs.List.Sorted.{IsPermutation}
use Rattle.core_theory.specs.Tree.{Range, whole_range, leaf_range, boundary_of, part_of, IsParent}
use Rattle.core_theory.specs.Core.{CoreState, word_of}

-- a count that is kept in 64 bits, after one more: it stands still at its greatest value
abbrev pub raised : ℕ → ℕ
raised count = min (count + 1) (2 ^ 64 - 1)

-- the words of all boundaries are the same
abbrev pub KeepsWords : CoreState → CoreState → Type 0
KeepsWords before after = (boundary : ℕ) → 0 < boundary → boundary < before.leaves → word_of after boundary ≡ word_of before boundary

-- the word of this boundary is set, and those of all others are the same
abbrev pub SetsWord : ℕ → CoreState → CoreState → Type 0
SetsWord set before after = (boundary : ℕ) → 0 < boundary → boundary < before.leaves → word_of after boundary ≡ (if boundary == set then true else word_of before boundary)

-- a claim: the counter rises; the leaf at which it stood, if there is one, is carried then, and else nothing is answered
pub record Claims (before : CoreState) (found : Option ℕ) (after : CoreState) : Type 0 where
  pub answer : SomeIff found (before.counter < before.leaves) before.counter
  pub counter : after.counter ≡ raised before.counter
  pub carried : IsPermutation (map leaf_range (option_to_list found) ++ before.carried) after.carried
  pub waiting : IsPermutation before.waiting after.waiting
  pub leaves : after.leaves ≡ before.leaves
  pub words : KeepsWords before after
  pub done : after.done ≡ before.done

-- a carried range, a part of a node, comes first to the node's boundary: the word there was unset; the range waits
pub record ArrivesFirst (before : CoreState) (range node : Range) (is_left : Bool) (after : CoreState) : Type 0 where
  pub parent : IsParent before.leaves range node is_left
  pub unset : word_of before (boundary_of node) ≡ false
  pub carried : IsPermutation before.carried (range ∷ after.carried)
  pub waiting : IsPermutation (range ∷ before.waiting) after.waiting
  pub words : SetsWord (boundary_of node) before after
  pub leaves : after.leaves ≡ before.leaves
  pub counter : after.counter ≡ before.counter
  pub done : after.done ≡ before.done

-- a carried range, a part of a node, comes second to the node's boundary: the word there was set; the node's other part
-- waits no more, and the node is carried instead of the two
pub record ArrivesSecond (before : CoreState) (range node : Range) (is_left : Bool) (after : CoreState) : Type 0 where
  pub parent : IsParent before.leaves range node is_left
  pub set : word_of before (boundary_of node) ≡ true
  pub carried : IsPermutation (node ∷ before.carried) (range ∷ after.carried)
  pub waiting : IsPermutation before.waiting (part_of node (not is_left) ∷ after.waiting)
  pub words : KeepsWords before after
  pub leaves : after.leaves ≡ before.leaves
  pub counter : after.counter ≡ before.counter
  pub done : after.done ≡ before.done

-- the end: the range of all leaves was carried, and the core is done
pub record Finishes (before : CoreState) (after : CoreState) : Type 0 where
  pub carried : IsPermutation before.carried (whole_range before.leaves ∷ after.carried)
  pub waiting : IsPermutation before.waiting after.waiting
  pub done : after.done ≡ true
  pub words : KeepsWords before after
  pub leaves : after.leaves ≡ before.leaves
  pub counter : after.counter ≡ before.counter

-- no event: the same state, its lists in another order
pub record IsReordered (before : CoreState) (after : CoreState) : Type 0 where
  pub carried : IsPermutation before.carried after.carried
  pub waiting : IsPermutation before.waiting after.waiting
  pub words : KeepsWords before after
  pub leaves : after.leaves ≡ before.leaves
  pub counter : after.counter ≡ before.counter
  pub done : after.done ≡ before.done
