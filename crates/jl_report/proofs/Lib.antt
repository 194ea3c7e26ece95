pub mod EntryLemmas
pub mod PieceLemmas
pub mod FamilyLemmas
pub mod PlaceLemmas
