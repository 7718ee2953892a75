pub mod Kinds
pub mod Sessions
pub mod LongLines
