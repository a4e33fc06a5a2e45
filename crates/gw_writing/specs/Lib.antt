pub mod Text
pub mod Columns
pub mod Decimals
