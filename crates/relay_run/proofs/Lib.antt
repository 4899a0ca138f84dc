pub mod Following
pub mod Levels
pub mod Playing
pub mod Summing
pub mod Taking
pub mod Telling
