pub mod Counts
pub mod Here
pub mod Slots
pub mod Populations
pub mod Shown
pub mod Listing
pub mod Room
