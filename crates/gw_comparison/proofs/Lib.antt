pub mod Series
pub mod Rows
pub mod Reach
pub mod Each
