pub mod Journals
pub mod Memory
