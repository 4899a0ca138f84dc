pub mod Kept
pub mod Links
pub mod Numbers
pub mod Seats
