pub mod Calls
pub mod Counts
pub mod GoodCode
pub mod Reading
pub mod Room
pub mod Runs
pub mod Steps
