pub mod Memory
pub mod Moments
pub mod Pressures
pub mod Steps
