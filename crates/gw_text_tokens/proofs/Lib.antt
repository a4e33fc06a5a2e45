pub mod FirstLine
pub mod Blanks
pub mod Saturated
