pub mod Completion
pub mod Assembly
pub mod Laws
