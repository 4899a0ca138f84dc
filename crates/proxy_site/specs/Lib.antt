pub mod Forms
pub mod Memory
pub mod Reasons
pub mod Relaying
pub mod Serving
pub mod Sites
pub mod WireSites
