pub mod Written
pub mod Shifted
pub mod Undoing
pub mod Changed
