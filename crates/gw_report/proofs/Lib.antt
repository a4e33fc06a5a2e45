pub mod Averages
pub mod Ranges
