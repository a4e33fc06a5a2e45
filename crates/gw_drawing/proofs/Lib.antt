pub mod Places
pub mod Series
