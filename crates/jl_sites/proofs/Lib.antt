pub mod NoScriptLemmas
pub mod SpotLemmas
