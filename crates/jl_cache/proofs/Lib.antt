pub mod Tried
pub mod Linked
