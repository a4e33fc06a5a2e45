pub mod Reweighed
pub mod Failing
pub mod Values
pub mod Versions
pub mod Completed
pub mod Tables
