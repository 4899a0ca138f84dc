pub mod Ended
pub mod Joining
pub mod Nexts
pub mod Spelled
pub mod Taking
