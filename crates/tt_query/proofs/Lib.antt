pub mod Believed
pub mod Facts
pub mod FirstPlaces
pub mod FirstNodes
pub mod FirstTokens
pub mod Asked
