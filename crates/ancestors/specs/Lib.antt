pub mod Ways
pub mod Jumps
pub mod Sample
