-- WHAT LINES ASK FOR
pub mod Refusals
pub mod Experiments
pub mod Answers
-- SHARES
pub mod Shares
