pub mod StaticLemmas
pub mod FormLemmas
pub mod CheckLemmas
