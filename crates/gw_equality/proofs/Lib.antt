pub mod Fields
pub mod Blocks
pub mod Procedures
pub mod Objects
pub mod Jobs
