pub mod Slices
pub mod LatestLemmas
pub mod FunctionLemmas
pub mod PickLemmas
pub mod TestedLemmas
pub mod LeftLemmas
pub mod ChoiceLemmas
