pub mod ProgramLemmas
pub mod OneMeaning
