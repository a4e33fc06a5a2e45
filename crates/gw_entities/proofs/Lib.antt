pub mod Averages
pub mod Classes
pub mod Histories
pub mod Passing
pub mod Rules
