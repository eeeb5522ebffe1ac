pub mod Admission
pub mod Lists
pub mod Marking
pub mod Predictor
pub mod Remembered
