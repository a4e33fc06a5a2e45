pub mod Entries
pub mod Batches
pub mod Whole
pub mod Found
pub mod Outputs
pub mod Requested
pub mod Calls
