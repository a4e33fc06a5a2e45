pub mod Beginning
pub mod Coded
pub mod Naming
