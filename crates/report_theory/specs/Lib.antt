pub mod ItemTexts
pub mod TableTexts
pub mod Belonging
pub mod SameTexts
pub mod FaultTexts
