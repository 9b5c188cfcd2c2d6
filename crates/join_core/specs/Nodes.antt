-- The tree and the events in the words of the calls.
use Rattle.std.specs.Prelude.{◌≡◌, ℕ, Bool, not}
use Rattle.core_theory.specs.Tree.{Range, boundary_of, part_of, IsParent}
use Rattle.core_theory.specs.Core.{CoreState}
use Rattle.core_theory.specs.Events.{ArrivesFirst, ArrivesSecond}
use Rattle.join_core.specs.declared.above.Above.{Above}
use Rattle.join_core.specs.declared.arrival.Arrival.{Arrival}
use Rattle.join_core.specs.declared.arrival.Arrival.TheVariants.{First, Second}

-- the leaves from one up to another, which is not among them
abbrev pub range_from : ℕ → ℕ → Range
range_from first last = record { first = first; last = last }

-- the range is a part of a node, on this side, with this boundary
abbrev pub IsAbove : ℕ → Range → Above → Type 0
IsAbove leaves range above = (node : Range) × IsParent leaves range node above.is_left × (above.boundary ≡ boundary_of node)

-- the arrival of a range: it was the first part of its node to come; or the second, and the answer is the range of the
-- node's other part
abbrev pub Arrives : CoreState → Range → Arrival → CoreState → Type 0
Arrives before range First after = (node : Range) × (is_left : Bool) × ArrivesFirst before range node is_left after
Arrives before range (Second first last) after = (node : Range) × (is_left : Bool) × ArrivesSecond before range node is_left after × (range_from first last ≡ part_of node (not is_left))
