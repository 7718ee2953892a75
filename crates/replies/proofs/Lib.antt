mod Dumps
pub mod Spaces
