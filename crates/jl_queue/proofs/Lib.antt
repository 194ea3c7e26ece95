pub mod JobLemmas
pub mod BoardLemmas
