use Rattle.std.proofs.Common.{◌≡◌}
use Rattle.node_store.specs.Chunks.{numbers_in, store_of}
use Rattle.arrow_table.specs.Looks.{Grows}
use Rattle.segment_parser.specs.Settling.{IsBetween}
use Rattle.segment_parser.specs.Numbers.{Stands}
use Rattle.segment_parser.proofs.leaf.Leaf.read_all.Given as goal

abbrev pub invariant-loop-index : goal.invariant-loop-index
invariant-loop-index l = (l.arrows.0 ≡ l.initial.arrows.0) × Grows l.initial.arrows.1 l.arrows.1 × (numbers_in l.store ≡ numbers_in l.initial.store)
    × IsBetween l.initial.arrows.0 (store_of l.store) l.arrows.1 l.self l.tokens l.index × Stands l.arrows.2 l.self
