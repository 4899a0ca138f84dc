pub mod Counted
pub mod Entries
pub mod Next
pub mod Searching
pub mod Sorted
pub mod Tests
