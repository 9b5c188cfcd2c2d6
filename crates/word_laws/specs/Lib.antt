pub mod PlainForms
