pub mod Naming
pub mod Shapes
pub mod Heard
pub mod Stops
pub mod MapStates
