pub mod HashMaps
pub mod Least
pub mod Seats
pub mod ShardLists
pub mod Sharded
pub mod TableMaps
pub mod Words
