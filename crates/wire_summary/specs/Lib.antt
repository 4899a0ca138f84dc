pub mod Levels
pub mod Logging
pub mod Places
pub mod Summarizes
