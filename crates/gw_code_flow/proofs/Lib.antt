pub mod EachProcedure
pub mod KnownHeights
