pub mod Stored
pub mod Requests
pub mod Responses
