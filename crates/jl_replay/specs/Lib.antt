pub mod Told
pub mod Moves
pub mod Differs
pub mod Following
pub mod Verdict
