pub mod Times
pub mod Rules
pub mod Pieces
