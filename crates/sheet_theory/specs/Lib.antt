pub mod Names
pub mod ScanOrder
pub mod TokenList
