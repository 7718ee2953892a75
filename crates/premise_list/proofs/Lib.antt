pub mod Lookups
pub mod TableFacts
pub mod Parts
pub mod PairsOfFacts
pub mod Unrivalled
pub mod Moves
pub mod Erased
pub mod Facts
