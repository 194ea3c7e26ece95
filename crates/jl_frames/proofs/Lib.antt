pub mod MoveLemmas
pub mod TopLemmas
