pub mod Believed
pub mod FirstPlaces
pub mod KeptLists
pub mod Outcomes
pub mod Right
pub mod Touched
