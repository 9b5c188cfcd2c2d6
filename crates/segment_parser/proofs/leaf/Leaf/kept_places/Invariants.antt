use Rattle.segment_parser.specs.Numbers.{AreKeptPlaces}
use Rattle.segment_parser.proofs.leaf.Leaf.kept_places.Given as goal

abbrev pub invariant-loop-place : goal.invariant-loop-place
invariant-loop-place l = AreKeptPlaces l.arrows.2 l.self.ids.items l.places.items
