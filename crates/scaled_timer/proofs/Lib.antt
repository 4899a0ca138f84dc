pub mod Sorting
pub mod Sooner
pub mod Listed
pub mod Turning
pub mod Queueing
pub mod Merging
pub mod Firing
pub mod Held
