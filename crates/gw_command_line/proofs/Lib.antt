pub mod Fewness
