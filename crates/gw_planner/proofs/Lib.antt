pub mod Alone
pub mod Conversions
pub mod RowLines
pub mod Showing
pub mod Summaries
pub mod Working
