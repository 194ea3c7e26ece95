pub mod SettledTypes
pub mod Settled
pub mod Must
