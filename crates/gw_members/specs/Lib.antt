pub mod Chain
pub mod Lists
pub mod Firsts
pub mod Members
