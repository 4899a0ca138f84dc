pub mod Answers
pub mod Keys
pub mod Kinds
pub mod Reading
pub mod Tables
pub mod Texts
pub mod Values
