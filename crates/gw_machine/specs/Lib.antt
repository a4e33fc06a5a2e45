-- HOW THE MACHINE KEEPS A STATE
pub mod EntityTables
pub mod Configuration
pub mod View
pub mod Coherence
pub mod Known
pub mod Wants
pub mod Shown
pub mod Slots
-- WHAT ITS CALLS ANSWER
pub mod Leaving
pub mod Admission
pub mod Frames
pub mod Entities
pub mod Evaluating
pub mod Spans
