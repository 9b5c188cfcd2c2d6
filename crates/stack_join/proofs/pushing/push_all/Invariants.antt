use Rattle.std.proofs.Common.{◌≡◌, ◌++◌, take}
use Rattle.stack_join.proofs.pushing.push_all.Given as goal

abbrev pub invariant-loop-kid : goal.invariant-loop-kid
invariant-loop-kid l = record {
  kids : l.block.kids ≡ l.initial.block.kids ++ take l.kid-index l.kids;
  floors : l.block.floors ≡ l.initial.block.floors;
  closed : l.block.closed ≡ l.initial.block.closed;
}
