pub mod Drawing
pub mod Flowing
pub mod Notes
