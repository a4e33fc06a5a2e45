pub mod Known
pub mod ReadLines
pub mod Words
