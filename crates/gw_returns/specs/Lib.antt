pub mod Words
pub mod Columns
