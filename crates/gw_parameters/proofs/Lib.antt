pub mod Blanks
pub mod Renumbering
pub mod Parting
