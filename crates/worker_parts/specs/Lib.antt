pub mod Held
pub mod Journals
pub mod Memory
pub mod Samples
