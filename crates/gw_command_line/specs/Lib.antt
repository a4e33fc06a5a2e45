pub mod Options
pub mod Rows
pub mod Words
pub mod Asking
