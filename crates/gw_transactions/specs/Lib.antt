pub mod Parameters
pub mod Transactions
pub mod Slots
