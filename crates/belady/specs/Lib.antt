pub mod Belady
