pub mod Crossings
pub mod Flag
pub mod Parts
