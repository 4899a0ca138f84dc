pub mod Closing
pub mod Unlinking
