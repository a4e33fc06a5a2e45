pub mod Seeds
pub mod Requests
pub mod Runs
pub mod Text
pub mod Table
pub mod Streams
pub mod Study
