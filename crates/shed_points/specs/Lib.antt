pub mod Dispatching
pub mod Shedders
pub mod ShedList
pub mod Shedding
