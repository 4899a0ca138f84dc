pub mod Allowed
pub mod Passing
pub mod Played
pub mod Rows
pub mod Stages
pub mod Tapes
pub mod Worlds
