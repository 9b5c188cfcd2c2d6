pub mod Parts
pub mod WellFormed
pub mod Ranking
pub mod RuleTexts
pub mod Faults
pub mod Printing
