pub mod Activations
pub mod Stops
