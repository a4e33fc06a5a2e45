pub mod Pairs
pub mod Quantiles
pub mod Rounding
pub mod Summaries
pub mod Telling
