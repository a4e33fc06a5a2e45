pub mod Labels
pub mod Laws
pub mod Trends
pub mod Values
pub mod Windows
