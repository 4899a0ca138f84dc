pub mod Kinds
pub mod Armed
pub mod Due
pub mod Told
pub mod Held
