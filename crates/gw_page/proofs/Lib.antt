pub mod Conversations
pub mod Fields
pub mod Shares
pub mod Costs
