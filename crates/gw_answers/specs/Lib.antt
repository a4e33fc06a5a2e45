-- STATUSES, AND WHAT IS ASKED
pub mod Status
pub mod Requests
-- CHECKING AND RUNNING AN OBJECT, AND ASSEMBLING A TEXT
pub mod Answer
pub mod Assembly
pub mod Finding
-- LAWS
pub mod Laws
pub mod Acceptance
pub mod Refusal
pub mod Service
pub mod Reasons
-- THE JOB OF A MODEL, A TEXT OR AN OBJECT
pub mod Inputs
pub mod ModelJobs
-- ITS RUN
pub mod Running
