pub mod Texts
pub mod Rule
pub mod App
