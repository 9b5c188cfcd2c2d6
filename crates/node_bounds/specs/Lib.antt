pub mod NodeBounds
