-- REFUSALS
pub mod Codes
-- THE INPUT OF POOL
pub mod Batch
-- ENTRIES THAT WAIT
pub mod Waiting
-- WHAT POOL WRITES
pub mod Parts
pub mod Told
pub mod Writing
-- BETWEEN THE TWO
pub mod Tickets
-- WINDOWS
pub mod Windows
