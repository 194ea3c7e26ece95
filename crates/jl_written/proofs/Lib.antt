pub mod PlaceLemmas
pub mod TextLemmas
pub mod ScopeLemmas
pub mod VarLemmas
pub mod SightLemmas
pub mod OrderLemmas
pub mod BuiltinLemmas
