pub mod Probes
pub mod Pairs
pub mod Asked
