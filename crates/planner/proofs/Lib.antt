pub mod Endings
pub mod Fronts
pub mod Telling
pub mod Summing
pub mod Commands
