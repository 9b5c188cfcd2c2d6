use Rattle.std.proofs.Common.{◌≡◌, ℕ, List, ◌++◌, take, drop}
use Rattle.node_store.specs.Chunks.{store_of}
use Rattle.stack_finish.specs.Gathering.{top_of}
use Rattle.stack_finish.specs.Putting.{AreAlong}
use Rattle.stack_finish.proofs.KidLemmas.{IsPartly}
use Rattle.stack_finish.proofs.gathered.Gathered.put_kids.Given as goal

abbrev pub invariant-loop-kid : goal.invariant-loop-kid
invariant-loop-kid l = record {
  kids : l.self.kids.items ≡ l.initial.self.kids.items ++ take l.kid-index l.kids;
  states : (states : List ℕ) → AreAlong l.tables (store_of l.initial.self.store) (top_of l.initial.self) l.kids states → IsPartly l.tables (store_of l.initial.self.store) l.initial.self.states.items (drop l.kid-index l.kids) states l.self.states.items;
  store : l.self.store ≡ l.initial.self.store;
  chunk : l.self.chunk ≡ l.initial.self.chunk;
  count : l.self.count ≡ l.initial.self.count;
}
