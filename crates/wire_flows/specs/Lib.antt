pub mod Begins
pub mod Flows
pub mod Measure
pub mod Moves
pub mod Sound
pub mod Writes
