pub mod Tasks
pub mod Passes
pub mod Books
pub mod Answers
