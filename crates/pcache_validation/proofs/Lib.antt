mod Elements
mod Shown
mod Updates
mod TagsRead
pub mod Words
