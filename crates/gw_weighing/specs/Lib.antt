pub mod Layout
pub mod Sums
pub mod Rules
pub mod Certificates
