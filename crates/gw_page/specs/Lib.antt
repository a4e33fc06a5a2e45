-- WHAT IS ASKED
pub mod Words
pub mod Inquiries
-- WHAT IT MAY COST
pub mod Counting
pub mod Limits
-- WHAT IT IS ANSWERED
pub mod Replies
pub mod Answers
pub mod Pages
pub mod Serving
