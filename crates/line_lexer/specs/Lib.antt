pub mod Means
pub mod Taken
pub use Rattle.scanning_theory.specs.Lines as Lines
pub use Rattle.scanning_theory.specs.Scan as Scan
pub use Rattle.token_patterns.specs.Scanner as Scanner
