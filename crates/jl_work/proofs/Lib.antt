pub mod SplitLemmas
pub mod PlaceLemmas
pub mod LineLemmas
pub mod ReadingLemmas
pub mod RunningLemmas
pub mod OneProgram
