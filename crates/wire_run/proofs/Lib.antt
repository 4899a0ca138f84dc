pub mod Completing
pub mod Noting
pub mod Playing
pub mod Retelling
pub mod Rowing
pub mod Spelling
pub mod Staging
pub mod Standing
