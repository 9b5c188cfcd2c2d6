pub mod ClapLemmas
pub mod CommaLemmas
pub mod AskingLemmas
