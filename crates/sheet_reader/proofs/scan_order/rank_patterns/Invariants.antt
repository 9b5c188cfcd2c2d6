use Rattle.std.proofs.Common.{◌≡◌, ◌++◌, length, take}
use Rattle.sheet_theory.specs.Names.{declared_names}
use Rattle.sheet_theory.specs.ScanOrder.{declared_patterns}
use Rattle.sheet_reader.proofs.scan_order.rank_patterns.Given as goal

abbrev pub invariant-loop-decl : goal.invariant-loop-decl
invariant-loop-decl l = record {
  token : l.token ≡ length (declared_names (take l.decl-index l.decls));
  ranked : l.ranking.items ≡ l.initial.ranking.items ++ (declared_patterns 0 (take l.decl-index l.decls));
}
