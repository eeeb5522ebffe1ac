pub mod FieldLemmas
pub mod HeadLemmas
pub mod Ends
pub mod Joins
pub mod Lengths
pub mod PartLemmas
pub mod Unique
pub mod Words
