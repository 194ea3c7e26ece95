pub mod Adds
pub mod Parts
pub mod TypeLaws
pub mod Asked
