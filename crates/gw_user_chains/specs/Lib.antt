pub mod Linked
pub mod Ends
