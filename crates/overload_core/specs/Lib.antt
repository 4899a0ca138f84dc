pub mod States
pub mod ActionStates
pub mod Class
pub mod Accounts
pub mod Course
pub mod Tied
