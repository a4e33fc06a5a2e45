pub mod ByTicket
pub mod Stages
pub mod Started
pub mod Waits
pub mod Windows
