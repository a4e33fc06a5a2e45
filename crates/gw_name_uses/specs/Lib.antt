pub mod Mentions
pub mod Locals
pub mod Roles
pub mod Statements
pub mod Sites
