pub mod Lexemes
pub mod Depth
pub mod Grammar
pub mod Machine
pub mod Reads
