pub mod Orders
pub mod Runs
pub mod Rings
pub mod Calling
pub mod Calls
pub mod PriorityCalls
pub mod DelayCalls
