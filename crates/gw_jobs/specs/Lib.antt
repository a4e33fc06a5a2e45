-- WHAT A ROW HOLDS
pub mod Holding
pub mod Running
-- JOBS AT THEIR START
pub mod Starting
-- PASSES, TASKS AND RECEIPTS
pub mod Passes
-- THE STORED JOURNAL, AND THE TABLE
pub mod Journal
pub mod Table
-- WHAT THE CALLS ANSWER
pub mod Answers
