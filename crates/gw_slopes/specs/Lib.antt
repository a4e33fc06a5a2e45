pub mod Sloped
pub mod Marking
pub mod Found
pub mod Aside
