pub mod Bits
pub mod Telling
