pub mod Conditions
pub mod Bodies
pub mod Broken
pub mod Questions
pub mod Constructed
pub mod Inferred
pub mod Prepared
pub mod Memo
