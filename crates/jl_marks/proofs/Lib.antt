pub mod PairLemmas
pub mod Scans
