pub mod Cuts
pub mod Reports
pub mod Laws
pub mod Asked
