pub mod Demo
pub mod Counts
pub mod Program
