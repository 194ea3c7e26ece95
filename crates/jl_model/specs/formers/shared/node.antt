pub mod SharedNode
