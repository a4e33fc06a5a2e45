pub mod Below
pub mod Lowered
pub mod Raised
pub mod Gathered
pub mod Reached
pub mod Sorted
pub mod Walks
