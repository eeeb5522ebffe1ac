pub mod Heard
pub mod HeardLines
pub mod Removed
pub mod SameMembers
pub mod Selected
pub mod Forbidden
pub mod AsGet
pub mod Words
