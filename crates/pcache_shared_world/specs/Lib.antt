pub mod Lends
pub mod Opened
pub mod Receipts
pub mod Views
pub mod Workers
