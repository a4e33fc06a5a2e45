pub mod Calling
pub mod Turning
mod Merging
