pub mod Refused
pub mod Large
pub mod Judged
pub mod Variables
pub mod Slots
