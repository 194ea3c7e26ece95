pub mod Printed
pub mod Spelling
pub mod Placeless
pub mod PrintsBack
