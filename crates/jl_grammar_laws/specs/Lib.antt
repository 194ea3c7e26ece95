pub mod Must
