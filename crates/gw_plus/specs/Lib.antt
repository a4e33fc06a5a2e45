pub mod Activation
pub mod Reading
