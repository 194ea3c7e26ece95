pub mod Sound
pub mod Types
pub mod Heads
pub mod Rows
pub mod Trees
pub mod Scripts
pub mod Returns
