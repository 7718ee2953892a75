pub mod Named
pub mod Representing
pub mod Extending
pub mod Nets
pub mod Numbers
