pub mod Carried
pub mod Grown
pub mod Parts
pub mod Scripts
pub mod Told
