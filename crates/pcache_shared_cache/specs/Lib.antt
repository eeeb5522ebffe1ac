pub mod Calls
pub mod Managed
pub mod Portions
pub mod Seen
pub mod SeenCode
pub mod Shared
pub mod SharedPuts
pub mod Turns
