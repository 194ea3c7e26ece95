pub mod Lines
pub mod Terms
pub mod Ground
pub mod Reduce
pub mod Form
