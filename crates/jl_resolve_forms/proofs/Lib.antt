pub mod ArmLemmas
pub mod BlockLemmas
pub mod TableLemmas
pub mod TypeSteps
pub mod FlagLemmas
