pub mod Joining
pub mod Adding
pub mod Answering
pub mod Runs
