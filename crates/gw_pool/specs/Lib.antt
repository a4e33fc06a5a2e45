-- THE PROGRESS BOARD
pub mod Board
-- SHARES OF A TABLE'S BOOKS
pub mod Shares
-- SUBMITS
pub mod Submits
-- WORKERS
pub mod Workers
