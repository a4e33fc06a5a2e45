pub mod Activations
pub mod Attempts
pub mod Moves
pub mod Stops
