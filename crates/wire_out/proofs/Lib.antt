pub mod Framing
pub mod Opened
pub mod Written
