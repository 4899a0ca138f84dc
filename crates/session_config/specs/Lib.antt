pub mod ClusterNames
pub mod Loading
pub mod Refusals
