mod WellFormed
pub mod Changed
pub mod InOne
pub mod InTwo
pub mod Growing
pub mod Mending
pub mod Reports
pub mod Refused
pub mod Erasing
pub mod Loosening
pub mod Formed
pub mod Blames
pub mod FreeNames
pub mod Protected
pub mod Taking
pub mod Broken
