pub mod Keys
pub mod Knowing
pub mod Working
