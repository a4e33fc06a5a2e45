pub mod Dividing
pub mod Digits
