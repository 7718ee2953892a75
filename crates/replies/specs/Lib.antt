pub mod Number
pub mod Dump
pub mod Batches
pub mod Timelines
pub mod Fixes
