pub mod ComposingLemmas
pub mod PutLemmas
pub mod FallLemmas
pub mod HoldLemmas
pub mod AliveLemmas
pub mod FloorLaws
