-- ROWS
pub mod Amounts
pub mod Names
pub mod Rows
pub mod Refusals
-- WHAT IS SAID OF READING
pub mod Reading
pub mod Laws
