pub mod Characters
pub mod Prefix
pub mod Grammar
pub mod Reading
pub mod Operators
pub mod Pieces
