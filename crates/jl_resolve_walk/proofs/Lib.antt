pub mod Forms
pub mod GivenLemmas
pub mod Layers
pub mod Lists
pub mod Parts
pub mod Tops
