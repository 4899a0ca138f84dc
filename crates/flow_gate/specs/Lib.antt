pub mod Board
pub mod Changes
pub mod Ids
pub mod Named
pub mod Lends
pub mod Line
pub mod Books
pub mod Parts
