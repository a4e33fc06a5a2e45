pub mod Words
pub mod Output
pub mod Framing
pub mod Calls
