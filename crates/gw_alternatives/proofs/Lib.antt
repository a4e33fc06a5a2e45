pub mod Following
pub mod Telling
pub mod Lone
