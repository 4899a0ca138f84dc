pub mod Gives
pub mod Lists
