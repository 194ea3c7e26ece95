pub mod Work
pub mod Due
pub mod Laws
pub mod Delivered
pub mod Split
pub mod Verdicts
