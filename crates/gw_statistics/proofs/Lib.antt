pub mod Halving
pub mod Least
pub mod Pairing
