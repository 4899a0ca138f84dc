pub mod Due
pub mod Held
pub mod Keeping
pub mod Maps
pub mod Sending
pub mod Sums
pub mod Walking
