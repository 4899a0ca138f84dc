pub mod Lengths
pub mod Requests
pub mod Responses
