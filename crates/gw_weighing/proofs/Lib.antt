pub mod Spelled
pub mod Placed
pub mod Reading
pub mod Exits
pub mod Returns
pub mod Bridge
pub mod Least
pub mod Found
