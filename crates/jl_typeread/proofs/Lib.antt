pub mod Reserved
pub mod HeldLemmas
pub mod Spelled
pub mod Kept
pub mod Filled
pub mod Whole
pub mod Loop
pub mod Ends
