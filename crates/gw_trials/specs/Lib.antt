-- WHAT BECOMES OF BYTES
pub mod Outcome
