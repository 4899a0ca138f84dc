pub mod Spelled
mod Started
mod Starting
