pub mod Rules
pub mod Least
pub mod Rounds
pub mod Circles
