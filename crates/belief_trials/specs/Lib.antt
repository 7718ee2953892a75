pub mod Dates
pub mod Lists
pub mod Pairs
