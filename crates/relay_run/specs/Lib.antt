pub mod Logs
pub mod Lines
pub mod Played
pub mod Replays
pub mod Summaries
pub mod Terms
pub mod Writes
