pub mod Lending
pub mod ListSteps
pub mod PermitSteps
pub mod VersionSteps
