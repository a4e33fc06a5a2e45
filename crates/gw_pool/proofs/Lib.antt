pub mod Answered
pub mod Booked
pub mod Steps
