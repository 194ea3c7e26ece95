pub mod Between
pub mod Cuts
pub mod Laws
pub mod Replies
pub mod Requests
pub mod Sessions
pub mod Texts
