pub mod Pass
pub mod Posts
pub mod Rule
pub mod Steps
pub mod Clauses
