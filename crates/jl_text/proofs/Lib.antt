pub mod Joined
pub mod Names
pub mod PieceLemmas
pub mod ValueTexts
