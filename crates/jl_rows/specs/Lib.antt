pub mod Spans
pub mod Open
pub mod Plans
pub mod RowLaws
