pub mod Resolver
pub mod Scopes
pub mod Functions
pub mod Parameters
pub mod TypesIn
pub mod Expressions
pub mod Defined
pub mod Top
