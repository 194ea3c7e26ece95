pub mod Owned
pub mod StepLemmas
pub mod Unknown
pub mod Allowed
pub mod OneAnswer
pub mod OneResult
