pub mod Places
pub mod Undoing
pub mod Lists
pub mod Written
pub mod Listing
pub mod Gone
pub mod Edits
pub mod First
