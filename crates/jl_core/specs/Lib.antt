pub mod Reached
pub mod Laws
pub mod View
pub mod State
pub mod Kept
pub mod Flags
pub mod KeyTypes
pub mod Asked
