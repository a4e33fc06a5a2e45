pub mod Same
pub mod Jobs
