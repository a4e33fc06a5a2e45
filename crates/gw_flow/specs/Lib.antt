pub mod Known
pub mod Viewed
pub mod Unfit
pub mod ViewedTable
pub mod ReturnEdges
pub mod Answered
