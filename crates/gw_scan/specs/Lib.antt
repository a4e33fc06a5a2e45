-- WHAT THE CALLS ANSWER
pub mod Making
pub mod Answers
-- WHAT A BLOCK AND A STEP MAKE
pub mod Makes
pub mod Visiting
pub mod Trying
-- WHAT A JOB AND A SIM STAND FOR
pub mod Origins
pub mod JobView
pub mod SimView
pub mod Views
-- WHAT A STATE WEIGHS
pub mod Weighing
