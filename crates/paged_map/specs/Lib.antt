pub mod Lends
pub mod PagedMap
pub mod Pages
