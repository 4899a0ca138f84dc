pub mod Dispatching
pub mod Fronts
pub mod Sessions
