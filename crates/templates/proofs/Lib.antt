pub mod KidLemmas
pub mod PendingLemmas
pub mod UnderwayLemmas
pub mod RuleLemmas
