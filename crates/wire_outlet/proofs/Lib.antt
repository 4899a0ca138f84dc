pub mod Entries
pub mod Framing
pub mod HeadSizes
pub mod Ready
