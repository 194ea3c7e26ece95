pub mod Answered
pub mod Meaning
pub mod Reads
pub mod Signatures
pub mod TextOrder
