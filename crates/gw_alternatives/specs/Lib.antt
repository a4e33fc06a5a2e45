pub mod Alternatives
pub mod Told
