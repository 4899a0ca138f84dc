pub mod Courses
pub mod Grammar
pub mod Orders
pub mod Reading
pub mod Seen
pub mod WireLines
pub mod WireOrder
pub mod WireOrders
