pub mod Checked
pub mod Followed
pub mod Linked
pub mod Named
pub mod Ranked
pub mod Sums
