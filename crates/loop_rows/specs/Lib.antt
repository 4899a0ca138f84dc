pub mod Meetings
pub mod Workers
