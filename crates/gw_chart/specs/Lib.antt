-- WHAT IS SHOWN
pub mod Contents
pub mod Bands
pub mod Windows
pub mod Samples
pub mod Looks
-- THE PICTURE
pub mod Axes
pub mod Plots
pub mod Lines
pub mod Bars
pub mod Document
-- THE SAME AS RECORDS
pub mod Sheets
-- THE SAME, BY WHAT THE CODE HAS OF IT
pub mod Views
-- THE CHARTS OF A RUN
pub mod Charts
