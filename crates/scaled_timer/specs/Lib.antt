pub mod Due
pub mod Order
pub mod Timing
pub mod Entries
pub mod Fronts
pub mod Queue
pub mod Merge
