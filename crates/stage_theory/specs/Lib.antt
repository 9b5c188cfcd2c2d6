pub mod Stages
pub mod Drafts
pub mod Laws
