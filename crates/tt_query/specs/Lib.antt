pub mod Stops
pub mod Firsts
