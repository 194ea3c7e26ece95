pub mod ValidLemmas
pub mod StartLemmas
pub mod ChildLemmas
pub mod KeyLemmas
pub mod IndexLemmas
pub mod RoundLemmas
pub mod SiteLemmas
