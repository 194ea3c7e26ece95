pub mod CutLemmas
pub mod LawLemmas
pub mod NumberLemmas
pub mod ReplyLemmas
pub mod SessionLemmas
pub mod TextLemmas
