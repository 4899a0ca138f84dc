pub mod Action
pub mod Load
pub mod Following
