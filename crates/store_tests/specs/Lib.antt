pub mod Programs
pub mod Child
pub mod Simple
pub mod Crossed
pub mod Starts
pub mod Rounds
