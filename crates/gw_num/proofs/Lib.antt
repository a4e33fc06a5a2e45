pub mod Division
pub mod Draws
pub mod Powers
pub mod Tables
pub mod Numbers
