pub mod Clusters
pub mod Defaults
pub mod Ranges
pub mod Routing
