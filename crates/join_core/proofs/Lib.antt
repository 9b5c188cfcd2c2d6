pub mod NodeLemmas
pub mod RangeLemmas
pub mod KeptLemmas
pub mod StartLemmas
pub mod CallLemmas
