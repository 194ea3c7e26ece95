pub mod ByFunction
pub mod Picked
pub mod Tested
