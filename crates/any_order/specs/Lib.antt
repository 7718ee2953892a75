pub mod Ahead
pub mod Faults
