pub mod Holding
pub mod Running
