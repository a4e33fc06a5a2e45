pub mod Lines
pub mod Sites
