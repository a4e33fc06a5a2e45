pub mod AboveLast
pub mod Ascending
pub mod Exact
pub mod ExactLists
mod Loop
pub mod OneOf
pub mod Receiving
