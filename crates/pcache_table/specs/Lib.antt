pub mod Numbers
pub mod Sharding
