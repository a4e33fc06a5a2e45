pub mod Lines
pub mod Shape
pub mod Sections
pub mod Listing
