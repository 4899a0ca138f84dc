pub mod Kinds
pub mod Moves
pub mod Narrowed
pub mod Pausing
pub mod Sources
pub mod State
pub mod Units
