pub mod DeclLemmas
pub mod EntryLemmas
pub mod NumberLemmas
pub mod StackLemmas
