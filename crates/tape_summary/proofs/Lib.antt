pub mod Levels
pub mod Pausing
pub mod Peaking
pub mod Placing
pub mod Spots
pub mod Summing
pub mod Telling
