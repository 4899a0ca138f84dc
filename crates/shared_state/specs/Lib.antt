pub mod Entries
pub mod Following
pub mod PermitRule
pub mod PermitSeats
pub mod Published
pub mod Seen
pub mod States
pub mod Version
