use Rattle.std.proofs.Common.{◌≡◌, ◌+◌, ◌++◌, take}
use Rattle.sheet_theory.specs.ScanOrder.{unnamed_literals}
use Rattle.sheet_reader.proofs.scan_order.rank_unnamed.Given as goal

abbrev pub invariant-loop-bytes : goal.invariant-loop-bytes
invariant-loop-bytes l = record {
  token : l.token ≡ l.first + l.bytes-index;
  ranked : l.ranking.items ≡ l.initial.ranking.items ++ (unnamed_literals l.first (take l.bytes-index l.literals));
}
