pub mod Ahead
pub mod Scanner
pub mod Searching
pub mod Walking
pub use Rattle.dead_ends.specs.Pairs as Pairs
pub use Rattle.pattern_data.specs.Bytes as Bytes
pub use Rattle.pattern_data.specs.Language as Language
pub use Rattle.position_theory.specs.States as States
pub use Rattle.scanning_theory.specs.Scan as Scan
pub use Rattle.scanning_theory.specs.Scannable as Scannable
