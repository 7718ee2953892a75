pub mod Tables
pub mod Changes
pub mod Places
pub mod RowsInside
pub mod Steps
pub mod Edits
pub mod Fits
