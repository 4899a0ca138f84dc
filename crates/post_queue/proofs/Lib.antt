pub mod Totals
pub mod Numbers
pub mod Seats
pub mod Steps
pub mod Ended
pub mod Places
