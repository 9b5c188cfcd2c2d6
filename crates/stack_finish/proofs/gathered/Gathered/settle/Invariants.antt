use Rattle.std.proofs.Common.{◌≡◌, ◌-◌, ◌^◌, List}
use Rattle.grammar_data.specs.declared.token.Token.{Token as TextToken}
use Rattle.tree_theory.specs.Stores.{Ref}
use Rattle.tree_theory.specs.Walks.{Step}
use Rattle.piece_theory.specs.Laws.{HasMore}
use Rattle.node_store.specs.Chunks.{node_count_in, numbers_in, store_of}
use Rattle.stack_finish.specs.Gathering.{IsUnder}
use Rattle.stack_finish.proofs.gathered.Gathered.settle.Given as goal

abbrev pub invariant-loop-rule : goal.invariant-loop-rule
invariant-loop-rule l = record {
  under : (tokens : List TextToken) (mark : TextToken) (nodes : List Ref) (behind : List Step) → mark.id ≡ l.token → IsUnder l.tables (store_of l.initial.self.store) l.initial.self.kids.items l.initial.self.states.items tokens mark nodes behind → IsUnder l.tables (store_of l.self.store) l.self.kids.items l.self.states.items tokens mark nodes behind;
  more : HasMore (store_of l.initial.self.store) (store_of l.self.store);
  chunks : numbers_in l.self.store ≡ numbers_in l.initial.self.store;
  chunk : l.self.chunk ≡ l.initial.self.chunk;
  count : l.self.count ≡ l.initial.self.count;
}

abbrev pub decreases-loop-rule : goal.decreases-loop-rule
decreases-loop-rule l = 2 ^ 64 - node_count_in l.self.store
