pub mod Numbers
pub mod Waiting
pub mod Marks
pub mod Decided
pub mod ByEvent
pub mod Erasing
pub mod Copies
pub mod LastCommit
