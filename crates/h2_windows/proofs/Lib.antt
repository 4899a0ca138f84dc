pub mod Rooms
pub mod Shifts
