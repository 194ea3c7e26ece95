pub mod Views
pub mod Places
pub mod Tops
pub mod Rule
pub mod Tells
pub mod Names
pub mod Opening
pub mod Adds
