pub mod Entities
pub mod Operands
pub mod Records
