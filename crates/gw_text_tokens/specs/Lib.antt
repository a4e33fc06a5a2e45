pub mod Codes
pub mod Faults
pub mod Heads
pub mod Lines
pub mod Numbers
pub mod Tokens
pub mod Words
