pub mod Rooms
pub mod Changes
