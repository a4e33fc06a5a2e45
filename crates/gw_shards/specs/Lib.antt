pub mod Rows
pub mod Shares
pub mod Objects
pub mod Laws
