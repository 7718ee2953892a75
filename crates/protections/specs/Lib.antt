pub mod Reported
pub mod Asks
pub mod Kept
pub mod Found
pub mod Reviews
