pub mod Form
pub mod Fields
pub mod Reading
pub mod Numbered
