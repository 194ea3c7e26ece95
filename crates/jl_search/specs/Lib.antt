pub mod Absent
pub mod Occurring
pub mod Open
pub mod Serving
pub mod Walk
