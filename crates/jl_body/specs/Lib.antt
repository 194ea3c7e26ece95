pub mod TypeRefused
pub mod NormalForms
