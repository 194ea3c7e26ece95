pub mod Running
pub mod LawLemmas
pub mod StatusLemmas
pub mod ReplayLemmas
pub mod QuestionLemmas
