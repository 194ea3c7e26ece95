pub mod Setups
pub mod Boards
