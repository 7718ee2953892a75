pub mod Places
pub mod Spelled
pub mod Parts
pub mod Ends
pub mod Digits
