pub mod Codes
pub mod Kept
pub mod Owing
pub mod RecvWindows
pub mod SendWindows
pub mod Shifts
