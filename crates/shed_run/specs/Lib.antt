pub mod Allowed
pub mod Parts
pub mod Played
pub mod ShedLines
pub mod ShedTapes
pub mod ShedText
