pub mod Calls
pub mod Closing
pub mod Lists
pub mod Moves
pub mod Scripts
pub mod Totals
pub mod Words
