use Rattle.std.proofs.Common.{◌≡◌, ℕ, List}
use Rattle.grammar_data.specs.declared.token.Token.{Token as TextToken}
use Rattle.node_store.specs.Chunks.{numbers_in, store_of}
use Rattle.arrow_table.specs.Looks.{Grows}
use Rattle.segment_parser.specs.Settling.{IsLooking}
use Rattle.segment_parser.specs.Numbers.{Stands}
use Rattle.segment_parser.proofs.leaf.Leaf.settle.Given as goal

abbrev pub invariant-loop : goal.invariant-loop
invariant-loop l = (l.arrows.0 ≡ l.initial.arrows.0) × Grows l.initial.arrows.1 l.arrows.1 × (numbers_in l.store ≡ numbers_in l.initial.store)
    × ((tokens : List TextToken) (index : ℕ) → IsLooking l.initial.arrows.0 (store_of l.initial.store) l.initial.arrows.1 l.initial.self tokens index l.token → IsLooking l.initial.arrows.0 (store_of l.store) l.arrows.1 l.self tokens index l.token)
    × (l.arrows.2 ≡ l.initial.arrows.2) × Stands l.arrows.2 l.self
