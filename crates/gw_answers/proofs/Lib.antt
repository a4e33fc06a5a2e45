pub mod Exhausting
pub mod Endings
pub mod OneAnswers
pub mod Conclusions
pub mod SomeAnswers
pub mod Ending
pub mod Lasting
pub mod Finding
