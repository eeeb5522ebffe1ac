pub mod Changes
pub mod Tidy
pub mod Calls
pub mod Ends
pub mod Named
pub mod Published
pub mod Past
pub mod PastLaws
pub mod PastWaits
mod Walks
pub mod Kept
pub mod Words
