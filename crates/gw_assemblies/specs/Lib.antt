pub mod Assembling
pub mod Register
