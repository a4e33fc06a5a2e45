-- WHAT A STEP DID
pub mod Sights
pub mod Happenings
-- HOW IT IS PRINTED
pub mod Columns
pub mod Lines
-- THE TRACE OF A RUN
pub mod Trace
