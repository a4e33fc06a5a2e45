-- WHICH JOBS ARE THE SAME
-- ROWS, EVENTS AND THEIR JOURNAL
pub mod Rows
pub mod Journal
-- THE CALLS AND THEIR REPLIES
pub mod Calls
pub mod Machine
-- THE LAWS
pub mod Isolation
pub mod Keeping
