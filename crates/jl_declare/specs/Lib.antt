pub mod Declaration
pub mod Judgement
pub mod Declarations
pub mod Script
