pub mod Faultless
pub mod RightLemmas
