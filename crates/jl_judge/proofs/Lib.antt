pub mod TellLemmas
pub mod AnswerLemmas
pub mod TestLemmas
pub mod JudgedLemmas
pub mod OneLemmas
