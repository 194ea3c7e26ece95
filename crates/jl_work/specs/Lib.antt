pub mod Work
pub mod Told
pub mod Owed
pub mod Place
pub mod Split
