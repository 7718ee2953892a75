pub mod Represents
pub mod KeptNumbers
pub mod Fits
