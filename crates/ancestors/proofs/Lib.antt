pub mod Fronts
pub mod Jumps
