pub mod HistoryText
pub mod Family
pub mod Summary
