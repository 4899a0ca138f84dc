pub mod Journals
pub mod Sites
