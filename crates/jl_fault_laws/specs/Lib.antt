pub mod Uses
pub mod Rows
pub mod TypeRows
pub mod Examples
pub mod Numbers
