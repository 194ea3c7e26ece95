pub mod Values
pub mod Alike
pub mod Chain
pub mod Side
pub mod Decide
pub mod Preceding
pub mod Latest
pub mod Standing
