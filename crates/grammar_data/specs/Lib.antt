pub mod Grammar
pub mod TokenSet
