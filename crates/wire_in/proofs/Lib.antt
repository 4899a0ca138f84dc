pub mod Arriving
pub mod Paying
pub mod Settled
pub mod Starting
