-- The order of faults, as the sheet's data has it.
pub use Rattle.outline_data.specs.Keys.{fault_number, fault_line, IsNoLater}
