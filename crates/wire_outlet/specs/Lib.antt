pub mod Control
pub mod Heads
pub mod Outgoing
pub mod View
pub mod Waiting
