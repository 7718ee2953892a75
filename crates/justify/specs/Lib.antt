pub mod Stops
pub mod Grounds
pub mod Lines
pub mod Questions
