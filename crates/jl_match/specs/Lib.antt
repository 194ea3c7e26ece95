pub mod SigRefused
pub mod KeptRow
pub mod SigRows
pub mod Listed
pub mod Stands
pub mod Hits
