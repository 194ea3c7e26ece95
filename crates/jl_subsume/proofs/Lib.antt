pub mod FormsLemmas
pub mod MadeLemmas
pub mod ScopeLemmas
pub mod PutBelowLemmas
pub mod SureLemmas
pub mod FitLemmas
pub mod SubsumeLemmas
