pub mod Rules
pub mod Derivations
pub mod Trees
pub mod UsefulNames
pub mod EmptyNames
pub mod UselessNames
pub mod FirstTokens
