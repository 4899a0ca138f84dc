pub mod Faults
pub mod Fits
pub mod InRange
pub mod Least
pub mod Lists
