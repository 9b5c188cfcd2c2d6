pub mod MapLemmas
pub mod AgreementLemmas
