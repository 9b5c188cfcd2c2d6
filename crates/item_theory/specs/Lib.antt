pub mod Items
pub mod Chains
pub mod LeadingWords
pub mod Search
pub mod Collections
