pub mod Fits
pub mod Moves
pub mod Totals
