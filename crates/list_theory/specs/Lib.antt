pub mod Fallen
pub mod LeftOut
pub mod NegativeCycles
pub mod WellNamed
