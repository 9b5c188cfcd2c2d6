use Rattle.name_table.specs.Markings.{lists_of}
use Rattle.name_table.proofs.PlaceLemmas.{ArePlacesBelow}
use Rattle.name_table.proofs.marked_places.all_places.Given as goal

abbrev pub invariant-loop-number : goal.invariant-loop-number
invariant-loop-number l = ArePlacesBelow l.sheet l.marking (lists_of l.lists.items) l.number
