pub mod Asked
pub mod Ending
pub mod Relayed
pub mod Telling
pub mod Wording
