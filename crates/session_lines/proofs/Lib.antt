pub mod Coursing
pub mod Readings
pub mod WireFollowing
pub mod WireReading
