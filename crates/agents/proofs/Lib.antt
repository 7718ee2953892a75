pub mod Answered
pub mod Opened
pub mod Outcomes
pub mod Places
pub mod Readings
pub mod Rests
pub mod Steps
pub mod HeldBy
mod LinesTell
mod Orders
