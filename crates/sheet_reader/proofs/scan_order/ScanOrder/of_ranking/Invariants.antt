use Rattle.std.proofs.Common.{◌≡◌, map}
use Rattle.sheet_theory.specs.ScanOrder.{Ranked}
use Rattle.sheet_reader.proofs.scan_order.ScanOrder.of_ranking.Given as goal

abbrev pub invariant-loop-pattern : goal.invariant-loop-pattern
invariant-loop-pattern l = record {
  patterns : l.patterns.items ≡ map (λ (r : Ranked). r.0) l.yielded;
  means : l.means.items ≡ map (λ (r : Ranked). r.1) l.yielded;
}
