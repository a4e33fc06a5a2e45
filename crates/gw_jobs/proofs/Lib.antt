pub mod Stored
pub mod Kept
pub mod Holding
pub mod Alike
