pub mod Codes
pub mod Shown
pub mod Marks
pub mod Sitting
pub mod Rounds
pub mod Explanation
pub mod Meaning
