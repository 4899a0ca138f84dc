pub mod Buffer
pub mod Stored
pub mod View
pub mod Watermark
