pub mod Origins
pub mod Antecedents
pub mod Supported
pub mod Reached
pub mod Told
pub mod AllTold
mod Bases
pub mod Walked
