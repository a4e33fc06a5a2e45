-- WHAT RUNS SAY
pub mod Points
-- HOW IT IS TOLD
pub mod Differences
pub mod Sheets
-- PICTURES
pub mod Frames
pub mod Pictures
