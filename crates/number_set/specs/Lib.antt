pub mod NumberSet
pub mod NumberMap
