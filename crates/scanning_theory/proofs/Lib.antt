pub mod NotRefuted
pub mod ScanLemmas
pub mod SomeList
pub mod StartLemmas
