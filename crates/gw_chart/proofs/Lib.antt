pub mod Places
pub mod Series
pub mod Looking
pub mod Banding
