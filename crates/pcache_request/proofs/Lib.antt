pub mod Fields
pub mod NoBody
pub mod Polled
pub mod Purging
pub mod Replacing
pub mod Untracked
