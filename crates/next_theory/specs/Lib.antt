pub mod ComingNext
pub mod GoingOn
