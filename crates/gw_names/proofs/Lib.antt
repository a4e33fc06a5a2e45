pub mod Declaring
pub mod Seeing
pub mod Numbering
pub mod Noting
pub mod Knowing
pub mod Firsts
pub mod Owning
