pub mod Incoming
pub mod Meaning
pub mod Next
pub mod Payloads
pub mod Unreads
