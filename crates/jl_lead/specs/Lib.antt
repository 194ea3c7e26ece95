pub mod Items
pub mod Stretch
pub mod Known
pub mod Leads
pub mod Led
pub mod Answers
pub mod Coming
pub mod Carried
