-- What a scanner asks of a sheet's patterns, and what it gets.
use Rattle.std.specs.Prelude.{◌≡◌, List, map}
pub use Rattle.scanning_theory.specs.Scan.{is_token, token_count}
pub use Rattle.scanning_theory.specs.Scannable.{IsScannable}
use Rattle.sheet_theory.specs.ScanOrder.{Ranked}
use Rattle.sheet_reader.specs.declared.scan_order.ScanOrder.{ScanOrder}

-- these patterns in turn, with their meanings
pub record Ranks (order : ScanOrder) (ranked : List Ranked) : Type 0 where
  pub patterns : order.patterns.items ≡ map (λ (r : Ranked). r.0) ranked
  pub means : order.means.items ≡ map (λ (r : Ranked). r.1) ranked
