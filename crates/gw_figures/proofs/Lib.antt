pub mod Counting
pub mod Four
pub mod OfLabels
pub mod Ranges
pub mod Reaching
