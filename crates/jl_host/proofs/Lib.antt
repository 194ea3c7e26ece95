pub mod Codes
pub mod Numbers
pub mod Told
