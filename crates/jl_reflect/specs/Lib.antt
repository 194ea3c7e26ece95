pub mod Spans
pub mod Chosen
pub mod Asked
